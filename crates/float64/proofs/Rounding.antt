-- What `round` makes of a fraction that lies strictly between two midpoints, and the pattern of a normal value. Assumes nothing.
use Rattle.std.proofs.Common.{◌≡◌, ℕ, suc, ◌+◌, ◌-◌, ◌*◌, ◌/◌, ◌%◌, ◌^◌, ◌<◌, ◌≤◌, true, false, not, T, eqb, sym, ap, ◌∙◌, subst, true≢false, le_trans, le_of_eq, lt_of_lt_of_le, le_of_suc-le-suc, mul-le-mul_right, mod-lt, mul_assoc, suc-mul, le_antisymm, mul-pos, lt_of_not-le, div-add-mod', zero-add, not-le_of_lt, mul-div_cancel, arith, eqb→eq, leb→le, pow_pos, pow_mono, pow-add, shl_lt}
use Prim.Native.Nat.{compare, Ordering}
use lib.Dec.{nleb→lt, is_le, compare_is_eq, eqb_refl}
use lib.Arith.{lt_of_le-ne}
use lib.Ieee.{Float, binary64, units, round, size, fits, of_bits, nan, inf, fin, up, down, to_bits, nearest}
use lib.Ieee.Bits.{of_bits-to_bits}
use lib.Ieee.Digits.{size-lt, size-le}
use lib.Ieee.Exact.{HasValue}
use lib.Ieee.Fits.{down_pos, round_is}
use lib.Ieee.Nearest.{closest, closest_same}

-- ---- what `compare` says
abbrev Cmp : Ordering → ℕ → ℕ → Type 0
Cmp Ordering.lt a b = a < b
Cmp Ordering.eq a b = a ≡ b
Cmp Ordering.gt a b = b < a

cmp : (a b : ℕ) → Cmp (compare a b) a b
cmp a b = go (compare a b) (leb→le a b) (nleb→lt a b) (eqb→eq a b) (λ (e : a ≡ b). subst (λ (x : ℕ). T (eqb a x)) e (eqb_refl a))
  where
    go : (o : Ordering) → (T (is_le o) → a ≤ b) → (T (not (is_le o)) → b < a) → (T (compare_is_eq o) → a ≡ b) → (a ≡ b → T (compare_is_eq o)) → Cmp o a b
    go Ordering.lt h k e n = lt_of_le-ne (h tt) n
    go Ordering.eq h k e n = e tt
    go Ordering.gt h k e n = k tt

-- x ≤ y where no multiple of b parts them
by_rows : (x y b : ℕ) → (y + 1 ≤ x → y * b + b ≤ x * b → ⊥) → x ≤ y
by_rows x y b f = le_of_suc-le-suc (lt_of_not-le (λ (g : suc y ≤ x). f (omega arith) (le_trans (le_of_eq (sym (suc-mul y b))) (mul-le-mul_right b g))))

closest_go : (o : Ordering) (w r b m : ℕ) → Cmp o (r * 2) b → r < b → 2 * (w * b + r) < 2 * (m * b) + b → 2 * (m * b) < 2 * (w * b + r) + b → nearest w o ≡ m
closest_go Ordering.lt w r b m k R h l = le_antisymm (by_rows w m b (λ _ g. omega arith)) (by_rows m w b (λ _ g. omega arith))
closest_go Ordering.eq w r b m k R h l =
    let p : w ≤ m = by_rows w m b (λ _ g. omega arith) in
    let q : m ≤ w = by_rows m w b (λ _ g. omega arith) in
    let e : w * b ≡ m * b = ap (λ (x : ℕ). x * b) (le_antisymm p q) in
    absurd (omega arith)
closest_go Ordering.gt w r b m k R h l = le_antisymm
    (lt_of_not-le (λ (g : m ≤ w). let j : m * b ≤ w * b = mul-le-mul_right b g in omega arith))
    (by_rows m (suc w) b (λ _ g. let j : suc w * b ≡ w * b + b = suc-mul w b in omega arith))

-- a / b is nearer to m than half of one
pub closest_at : (a b m : ℕ) → 0 < b → 2 * a < 2 * (m * b) + b → 2 * (m * b) < 2 * a + b → closest a b ≡ m
closest_at a b m B h l =
    let e : a / b * b + a % b ≡ a = div-add-mod' a b in
    closest_go (compare (a % b * 2) b) (a / b) (a % b) b m (cmp (a % b * 2) b) (mod-lt a B) (omega arith) (omega arith)

-- ---- the digits of a number between two powers
pub size_at : (a n : ℕ) → 2 ^ a ≤ n → n < 2 ^ suc a → size n ≡ suc a
size_at a n lo hi = le_antisymm (size-le n (suc a) hi)
    (lt_of_not-le (λ (g : size n ≤ a). not-le_of_lt (lt_of_lt_of_le (size-lt n) (pow_mono g)) lo))

-- ---- w units, rounded to m * 2 ^ k units
pub round_at : (w m k : ℕ) → size w ≡ 53 + k → 2 * w < 2 * (m * 2 ^ k) + 2 ^ k → 2 * (m * 2 ^ k) < 2 * w + 2 ^ k
    → round binary64 false w (2 ^ 1074) ≡ units binary64 false m k
round_at w m k z h l =
    let e1 : size (w * 2 ^ 1074 / 2 ^ 1074) - 53 ≡ k = ap (λ (x : ℕ). size x - 53) (mul-div_cancel w (pow_pos 1074)) ∙ ap (λ (x : ℕ). x - 53) z ∙ less k in
    let e2 : closest (w * 2 ^ 1074) (2 ^ 1074 * 2 ^ k) ≡ closest w (2 ^ k) =
    closest_same (w * 2 ^ 1074) (2 ^ 1074 * 2 ^ k) w (2 ^ k) (mul-pos (pow_pos 1074) (pow_pos k)) (pow_pos k) (mul_assoc w (2 ^ 1074) (2 ^ k)) in
    round_is binary64 false w (2 ^ 1074)
    ∙ ap (λ (j : ℕ). units binary64 false (closest (w * 2 ^ 1074) (2 ^ 1074 * 2 ^ j)) j) e1
    ∙ ap (λ (x : ℕ). units binary64 false x k) (e2 ∙ closest_at w (2 ^ k) m (pow_pos k) h l)
  where
    less : (k : ℕ) → 53 + k - 53 ≡ k
    less k = omega arith

-- ---- the pattern of a normal value
pattern_of : (n m k : ℕ) → n ≡ m * 2 ^ k → 2 ^ 52 ≤ m → m < 2 ^ 53 → 0 + (size n - 53) * 2 ^ 52 + n / 2 ^ (size n - 53) ≡ k * 2 ^ 52 + m
pattern_of n m k e lo hi =
    let s : size n ≡ suc (52 + k) = ap size e
    ∙ size_at (52 + k) (m * 2 ^ k) (le_trans (le_of_eq (pow-add 2 52 k)) (mul-le-mul_right (2 ^ k) lo)) (lt_of_lt_of_le (shl_lt 53 k hi) (pow_mono (omega arith))) in
    let d : size n - 53 ≡ k = ap (λ (x : ℕ). x - 53) s ∙ less k in
    ap (λ (j : ℕ). 0 + j * 2 ^ 52 + n / 2 ^ j) d
    ∙ ap (λ (x : ℕ). 0 + k * 2 ^ 52 + x) (ap (λ (x : ℕ). x / 2 ^ k) e ∙ mul-div_cancel m (pow_pos k))
    ∙ ap (λ (x : ℕ). x + m) (zero-add (k * 2 ^ 52))
  where
    less : (k : ℕ) → suc (52 + k) - 53 ≡ k
    less k = omega arith

pub bits_of : (v : Float) (m k : ℕ) → HasValue v false (m * 2 ^ k) (2 ^ 1074) → 2 ^ 52 ≤ m → m < 2 ^ 53 → to_bits binary64 v ≡ k * 2 ^ 52 + m
unfolding to_bits
bits_of nan m k v lo hi = absurd v
bits_of (inf s) m k v lo hi = absurd v
bits_of (fin true a e) m k v lo hi = absurd (true≢false v.0)
bits_of (fin false a e) m k v lo hi =
    pattern_of (a * up e * 2 ^ 1074 / down e) m k (ap (λ (x : ℕ). x / down e) v.1 ∙ mul-div_cancel (m * 2 ^ k) (down_pos e)) lo hi

-- so the pattern is read as that value
pub read_back : (v : Float) (m k : ℕ) → T (fits binary64 v) → HasValue v false (m * 2 ^ k) (2 ^ 1074) → 2 ^ 52 ≤ m → m < 2 ^ 53 → of_bits binary64 (k * 2 ^ 52 + m) ≡ v
read_back v m k f h lo hi = ap (of_bits binary64) (sym (bits_of v m k h lo hi)) ∙ of_bits-to_bits binary64 v f
