-- The exact test of a guess at a root, on plain numbers. Assumes nothing.
use Rattle.std.proofs.Common.{◌≡◌, ℕ, ◌+◌, ◌-◌, ◌*◌, ◌/◌, ◌%◌, ◌^◌, ◌<◌, ◌≤◌, Bool, true, false, not, T, leb, sym, ap, ◌∙◌, subst, mul_assoc, mul_comm, add-mul, mul-le-mul, mul-add, arith, leb→le}
use native.Mathlib.Nat.{mul-mul-mul_comm}
use lib.Dec.{nleb→lt}
use Rattle.float64.specs.Parts.{Halved}
use Rattle.float64.proofs.Square.{sq_twice, sq_next}

-- the square of a number in halves of 27 digits
pub sq_halves : (a b : ℕ) → (a * 2 ^ 27 + b) * (a * 2 ^ 27 + b) ≡ a * a * 2 ^ 54 + a * b * 2 ^ 28 + b * b
sq_halves a b =
    let x = a * 2 ^ 27 in
    let e1 : (x + b) * (x + b) ≡ x * (x + b) + b * (x + b) = add-mul x b (x + b) in
    let e2 : x * (x + b) ≡ x * x + x * b = mul-add x x b in
    let e3 : b * (x + b) ≡ b * x + b * b = mul-add b x b in
    let e4 : x * x ≡ a * a * 2 ^ 54 = mul-mul-mul_comm a (2 ^ 27) a (2 ^ 27) in
    let e5 : b * x ≡ x * b = mul_comm b x in
    let e6 : x * b ≡ a * b * 2 ^ 27 = mul_assoc a (2 ^ 27) b ∙ ap (λ (y : ℕ). a * y) (mul_comm (2 ^ 27) b) ∙ sym (mul_assoc a b (2 ^ 27)) in
    omega arith

-- the products of the halves of a number of 53 digits
pub record Small (a b : ℕ) : Type 0 where
  pub high : a * a < 2 ^ 52
  pub cross : a * b < 2 ^ 53
  pub low : b * b < 2 ^ 54

pub small : (m : ℕ) → m < 2 ^ 53 → Small (m / 2 ^ 27) (m % 2 ^ 27)
small m h =
    let a : m / 2 ^ 27 ≤ 2 ^ 26 - 1 = omega arith in
    let b : m % 2 ^ 27 ≤ 2 ^ 27 - 1 = omega arith in
    record {
      high = omega (arith, mul-le-mul a a);
      cross = omega (arith, mul-le-mul a b);
      low = omega (arith, mul-le-mul b b);
    }

-- between the two midpoints
pick : (s k : ℕ) (b : Bool) → (T b → 2 * (k + 1) * (2 * (k + 1)) ≤ s * 2 ^ 54) → (T (not b) → s * 2 ^ 54 < 2 * (k + 1) * (2 * (k + 1)))
    → (k + 1) * (k + 1) < s * 2 ^ 52 + (k + 1) → s * 2 ^ 52 ≤ (k + 1) * (k + 1) + (k + 1) → Halved s (k + 1)
pick s k true y z l h = record {
  q = 2 * (k + 1);
  whole = record { lo = y tt; hi = omega (arith, sq_next (2 * (k + 1)), sq_twice (k + 1)) };
  half = omega arith;
}
pick s k false y z l h =
    let e : 2 * (k + 1) ≡ 2 * k + 1 + 1 = omega arith in
    record {
      q = 2 * k + 1;
      whole = record { lo = omega (arith, sq_next (2 * k), sq_twice k, sq_next k); hi = omega (arith, z tt, ap (λ (x : ℕ). x * x) e) };
      half = omega arith;
    }

pub half_at : (s m : ℕ) → 0 < m → m * m < s * 2 ^ 52 + m → s * 2 ^ 52 ≤ m * m + m → Halved s m
half_at s m M l h =
    let k = m - 1 in
    let e : k + 1 ≡ m = omega arith in
    let b = 2 * (k + 1) * (2 * (k + 1)) in
    subst (Halved s) e
    (pick s k (leb b (s * 2 ^ 54)) (leb→le b (s * 2 ^ 54)) (nleb→lt b (s * 2 ^ 54))
    (subst (λ (x : ℕ). x * x < s * 2 ^ 52 + x) (sym e) l) (subst (λ (x : ℕ). s * 2 ^ 52 ≤ x * x + x) (sym e) h))

-- What the tests of `nearest` say, for the halves a and b of m: v * 2 ^ 28 is s * 2 ^ 52 - m * m with b * b and 2 ^ 54 added.
pub tested : (s m a b t v : ℕ) → 0 < m → m ≡ a * 2 ^ 27 + b
    → t + a * a * 4 ≡ s → v + a * b ≡ t * 2 ^ 24 + 2 ^ 26
    → b * b + 2 ^ 54 < v * 2 ^ 28 + m → v * 2 ^ 28 ≤ b * b + 2 ^ 54 + m → Halved s m
tested s m a b t v M z p q l h =
    let e : m * m ≡ a * a * 2 ^ 54 + a * b * 2 ^ 28 + b * b = ap (λ (x : ℕ). x * x) z ∙ sq_halves a b in
    half_at s m M (omega arith) (omega arith)
