-- The 54 digits of the whole part q of the root of s * 2 ^ 54, and the two sides of their rounding. Assumes nothing.
use Rattle.std.proofs.Common.{◌≡◌, ℕ, zero, suc, ◌+◌, ◌-◌, ◌*◌, ◌/◌, ◌%◌, ◌^◌, ◌<◌, ◌≤◌, sym, refl, ap, ◌∙◌, le_of_eq, lt_of_lt_of_le, le_of_suc-le-suc, lt_of_le_of_lt, mul-le-mul_right, mul_assoc, mul_comm, add-mul, mul-le-mul, lt_of_mul-lt-mul_right, lt_of_not-le, mul_left_comm, arith, lit≤, pow_mono, pow-add, shl_lt}
use native.Mathlib.Nat.{mul-mul-mul_comm}
use lib.Arith.{lt_of_le-ne}
use Rattle.float64.specs.Parts.{WholePart}
use Rattle.float64.proofs.Square.{sq_next, below}

-- ---- the 54 digits of q
pub q_low : (s q : ℕ) → 2 ^ 52 ≤ s → WholePart (s * 2 ^ 54) q → 2 ^ 53 ≤ q
q_low s q l w = below (s * 2 ^ 54) q (2 ^ 53) w.hi (omega arith)

-- and q is not all ones
pub q_high : (s q : ℕ) → s + 2 ≤ 2 ^ 54 → WholePart (s * 2 ^ 54) q → q + 2 ≤ 2 ^ 54
q_high s q h w = le_of_suc-le-suc (lt_of_not-le (λ (g : suc (2 ^ 54) ≤ q + 2).
    let j : 2 ^ 54 - 1 ≤ q = omega arith in
    let k : (2 ^ 54 - 1) * (2 ^ 54 - 1) ≤ q * q = mul-le-mul j j in
    let l : q * q ≤ s * 2 ^ 54 = w.lo in
    omega arith))

-- so half of it, rounded up, has 53
pub half_low : (s q : ℕ) → 2 ^ 52 ≤ s → WholePart (s * 2 ^ 54) q → 2 ^ 52 ≤ (q + 1) / 2
half_low s q l w = omega (arith, q_low s q l w)

pub half_high : (s q : ℕ) → s + 2 ≤ 2 ^ 54 → WholePart (s * 2 ^ 54) q → (q + 1) / 2 < 2 ^ 53
half_high s q h w = omega (arith, q_high s q h w)

pub twice : (h : ℕ) → 2 ^ (485 + h) ≡ 2 * 2 ^ (h + 484)
twice h = pow-add 2 485 h ∙ mul_assoc 2 (2 ^ 484) (2 ^ h) ∙ ap (λ (x : ℕ). 2 * x) (mul_comm (2 ^ 484) (2 ^ h) ∙ sym (pow-add 2 h 484))

-- ---- n in units, and what its root is the root of
regroup : (s h a p : ℕ) → s * h * h * (a * (p * p)) ≡ s * a * (h * p * (h * p))
regroup s h a p = simp (mul_assoc, mul_left_comm)

pub scaled : (n s h : ℕ) → n * 2 ^ 52 ≡ s * 2 ^ h * 2 ^ h → n * 2 ^ 1074 ≡ s * 2 ^ 54 * (2 ^ (h + 484) * 2 ^ (h + 484))
scaled n s h e =
    sym (mul_assoc n (2 ^ 52) (2 ^ 1022))
    ∙ ap (λ (x : ℕ). x * 2 ^ 1022) e
    ∙ regroup s (2 ^ h) (2 ^ 54) (2 ^ 484)
    ∙ ap (λ (x : ℕ). s * 2 ^ 54 * (x * x)) (sym (pow-add 2 h 484))

pub in_reach : (n s h : ℕ) → n * 2 ^ 52 ≡ s * 2 ^ h * 2 ^ h → s < 2 ^ 54 → h ≤ 1048 → n * 2 ^ 1074 < 4 ^ 1586
in_reach n s h e S H =
    let a : s * 2 ^ h * 2 ^ h < 2 ^ (54 + h + h) = shl_lt (54 + h) h (shl_lt 54 h S) in
    let b : 2 ^ (54 + h + h) ≤ 2 ^ 2150 = pow_mono {j = 2150} (omega arith) in
    let c : n < 2 ^ 2098 = lt_of_mul-lt-mul_right (2 ^ 52) (lt_of_le_of_lt (le_of_eq e) (lt_of_lt_of_le a b)) in
    lt_of_lt_of_le (shl_lt 2098 1074 c) (lit≤ tt)

-- ---- the last digit decided: an odd q is not the root itself, since q * q is odd
odd_square : (q : ℕ) → q % 2 ≡ 1 → q * q % 2 ≡ 1
odd_square q o =
    let e : q ≡ 2 * (q / 2) + 1 = omega arith in
    ap (λ (x : ℕ). x * x % 2) e ∙ half (q / 2)
  where
    half : (r : ℕ) → (2 * r + 1) * (2 * r + 1) % 2 ≡ 1
    half r = let s : 2 * r * (2 * r) ≡ 2 * (r * (2 * r)) = mul_assoc 2 r (2 * r) in omega (arith, sq_next (2 * r))

pub no_root : (s q : ℕ) → q % 2 ≡ 1 → q * q ≡ s * 2 ^ 54 → ⊥
no_root s q o e = omega (arith, odd_square q o)

-- so w, the whole part of that root times c, is above q * c, where c has more digits than q
pub above : (s c q w : ℕ) → 2 * q + 1 ≤ c → q % 2 ≡ 1 → WholePart (s * 2 ^ 54) q → WholePart (s * 2 ^ 54 * (c * c)) w → q * c < w
above s c q w C o v u =
    let next : q * q < s * 2 ^ 54 = lt_of_le-ne v.lo (no_root s q o) in
    let some : (q * q + 1) * (c * c) ≤ s * 2 ^ 54 * (c * c) = mul-le-mul_right (c * c) (omega arith) in
    let room : (2 * q + 1) * c ≤ c * c = mul-le-mul_right c C in
    let k : q * c + 1 ≤ w = below (s * 2 ^ 54 * (c * c)) w (q * c + 1) u.hi
    (omega (arith, sq_next (q * c), mul-mul-mul_comm q c q c, add-mul (q * q) 1 (c * c), add-mul (2 * q) 1 c, mul_assoc 2 q c)) in
    omega arith

-- the two sides of the rounding, with x for m * c, y for q * c and g for (q + 1) * c
pub sides : (q m c w x y g : ℕ) → m ≡ (q + 1) / 2 → y ≤ w → w < g → (q % 2 ≡ 1 → y < w)
    → g ≡ y + c → (2 * m ≡ q → 2 * x ≡ y) → (2 * m ≡ q + 1 → 2 * x ≡ g)
    → (w < 2 * x + c) × (2 * x < w + c)
sides q m c w x y g e l h o r even odd = go (q % 2) refl
  where
    go : (p : ℕ) → q % 2 ≡ p → (w < 2 * x + c) × (2 * x < w + c)
    go zero p = let k : 2 * x ≡ y = even (omega arith) in (omega arith, omega arith)
    go (suc z) p =
        let k : 2 * x ≡ g = odd (omega arith) in
        let t : y < w = o (omega arith) in
        (omega arith, omega arith)
