-- A larger pattern stands for a larger number, so at most one pattern is nearest a root. Assumes nothing.
use Rattle.std.proofs.Common.{◌≡◌, ℕ, zero, suc, ◌+◌, ◌-◌, ◌*◌, ◌/◌, ◌%◌, ◌^◌, ◌<◌, ◌≤◌, ◌⊎◌, sym, ap, ◌∙◌, inl, inr, le_trans, le_of_eq, le_of_suc-le-suc, add-zero, le_of_lt, mul_assoc, mul_comm, add-mul, eq-zero-or-pos, mul-le-mul, le_antisymm, eq-or-lt_of_le, lt_of_not-le, mul-one, not-le_of_lt, arith, pow-add}
use Rattle.float64.specs.Rule.{units_of, Nearest}
use Rattle.float64.proofs.Fields.{units_low, units_high}

-- ---- the units of a pattern
no_zero : (k b : ℕ) → b / 2 ^ 52 ≡ k + 1 → b / 2 ^ 52 ≡ 0 → ⊥
no_zero k b h z = omega arith

at : (k t b : ℕ) → t < 2 ^ 52 → b ≡ (k + 1) * 2 ^ 52 + t → units_of b ≡ (2 ^ 52 + t) * 2 ^ k
at k t b h e =
    let f : b / 2 ^ 52 ≡ k + 1 = omega arith in
    let d : b % 2 ^ 52 ≡ t = omega arith in
    let g : b / 2 ^ 52 - 1 ≡ k = omega arith in
    units_high b (no_zero k b f) ∙ ap (λ (x : ℕ). (2 ^ 52 + x) * 2 ^ (b / 2 ^ 52 - 1)) d ∙ ap (λ (x : ℕ). (2 ^ 52 + t) * 2 ^ x) g

pub units_normal : (k m b : ℕ) → 2 ^ 52 ≤ m → m ≤ 2 ^ 53 → b ≡ k * 2 ^ 52 + m → units_of b ≡ m * 2 ^ k
units_normal k m b l h e = go (eq-or-lt_of_le h)
  where
    go : (m ≡ 2 ^ 53) ⊎ (m < 2 ^ 53) → units_of b ≡ m * 2 ^ k
    go (inl z) =
        let c : b ≡ (k + 1 + 1) * 2 ^ 52 + 0 = omega arith in
        let d : 2 ^ (k + 1) ≡ 2 * 2 ^ k = pow-add 2 k 1 ∙ mul_comm (2 ^ k) 2 in
        at (k + 1) 0 b (omega arith) c ∙ ap (λ (x : ℕ). 2 ^ 52 * x) d ∙ sym (mul_assoc (2 ^ 52) 2 (2 ^ k)) ∙ ap (λ (x : ℕ). x * 2 ^ k) (sym z)
    go (inr z) =
        let t : 2 ^ 52 + (m - 2 ^ 52) ≡ m = omega arith in
        at k (m - 2 ^ 52) b (omega arith) (omega arith) ∙ ap (λ (x : ℕ). x * 2 ^ k) t

pub units_small : (b : ℕ) → b ≤ 2 ^ 52 → units_of b ≡ b
units_small b h = go (eq-or-lt_of_le h)
  where
    go : (b ≡ 2 ^ 52) ⊎ (b < 2 ^ 52) → units_of b ≡ b
    go (inl z) = units_normal 0 b b (omega arith) (omega arith) (omega arith) ∙ mul-one b
    go (inr z) = let d : b % 2 ^ 52 ≡ b = omega arith in units_low b (omega arith) ∙ d

-- ---- a larger pattern stands for a larger number
units_step : (b : ℕ) → units_of b ≤ units_of (b + 1)
units_step b = go (eq-zero-or-pos (b / 2 ^ 52))
  where
    go : (b / 2 ^ 52 ≡ 0) ⊎ (0 < b / 2 ^ 52) → units_of b ≤ units_of (b + 1)
    go (inl z) = omega (arith, units_small b (omega arith), units_small (b + 1) (omega arith))
    go (inr z) =
        let k = b / 2 ^ 52 - 1 in
        let m = 2 ^ 52 + b % 2 ^ 52 in
        let p : units_of b ≡ m * 2 ^ k = units_normal k m b (omega arith) (omega arith) (omega arith) in
        let q : units_of (b + 1) ≡ (m + 1) * 2 ^ k = units_normal k (m + 1) (b + 1) (omega arith) (omega arith) (omega arith) in
        omega (arith, add-mul m 1 (2 ^ k))

pub units_mono : (d b : ℕ) → units_of b ≤ units_of (b + d)
units_mono zero b = le_of_eq (ap units_of (sym (add-zero b)))
units_mono (suc d) b =
    let e : b + d + 1 ≡ b + suc d = omega arith in
    le_trans (units_mono d b) (le_trans (units_step (b + d)) (le_of_eq (ap units_of e)))

-- ---- at most one pattern is nearest
apart : (n b c : ℕ) → Nearest n b → Nearest n c → b < c → ⊥
apart n b c v w h =
    let d = c - (b + 1) in
    let e : b + 1 + d ≡ c = omega arith in
    let f : b + d ≡ c - 1 = omega arith in
    let x : units_of b ≤ units_of (c - 1) = le_trans (units_mono d b) (le_of_eq (ap units_of f)) in
    let y : units_of (b + 1) ≤ units_of c = le_trans (units_mono d (b + 1)) (le_of_eq (ap units_of e)) in
    let z : units_of b + units_of (b + 1) ≤ units_of (c - 1) + units_of c = omega arith in
    not-le_of_lt w.low (le_trans (le_of_lt v.high) (mul-le-mul z z))

pub nearest_only : (n b c : ℕ) → Nearest n b → Nearest n c → b ≡ c
nearest_only n b c v w = le_antisymm
    (le_of_suc-le-suc (lt_of_not-le (λ (g : suc c ≤ b). apart n c b w v g)))
    (le_of_suc-le-suc (lt_of_not-le (λ (g : suc b ≤ c). apart n b c v w g)))
