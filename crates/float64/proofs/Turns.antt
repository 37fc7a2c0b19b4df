-- One turn of the loop over the digits, and a number brought to 53 digits, on plain numbers. Assumes nothing.
use Rattle.std.proofs.Common.{◌≡◌, ℕ, ◌+◌, ◌-◌, ◌*◌, ◌/◌, ◌%◌, ◌^◌, ◌<◌, ◌≤◌, sym, ap, ◌∙◌, subst, mul_assoc, mul_comm, le_antisymm, mul_left_comm, arith, pow_mono, pow-add}
use native.Mathlib.Nat.{mul-mul-mul_comm}
use Rattle.std.proofs.Math.Nat.{mul-le-mul_right, mul-lt-mul_of_pos_right}
use Rattle.std.proofs.Math.Logic.{dite}
use Rattle.std.proofs.Math.Decide.{dec_le}
use Rattle.std.proofs.lemmas.Nat.{pow_pos}
use Rattle.float64.specs.Parts.{WholePart}
use Rattle.float64.proofs.Square.{sq_next}

-- after i turns q is the whole part of the root of the digits used, rem is what is left of them, and rest has the digits to come
pub record Turn (s rest q rem i : ℕ) : Type 0 where
  pub most : i ≤ 54
  pub low : rest < 2 ^ 54
  pub short : rem ≤ 2 * q
  pub few : q < 2 ^ i
  pub all : s * (2 ^ i * 2 ^ i) ≡ (q * q + rem) * 2 ^ 54 + rest

pub q_fits : (s rest q rem i : ℕ) → Turn s rest q rem i → i < 54 → q < 2 ^ 53
q_fits s rest q rem i t h = let p : 2 ^ i ≤ 2 ^ 53 = pow_mono {j = 53} (omega arith) in omega (arith, t.few)

sq2 : (q : ℕ) → q * 2 * (q * 2) ≡ 4 * (q * q)
sq2 q = mul-mul-mul_comm q 2 q 2 ∙ mul_comm (q * q) 4

power : (i : ℕ) → 2 ^ (i + 1) ≡ 2 * 2 ^ i
power i = pow-add 2 i 1 ∙ mul_comm (2 ^ i) 2

grown : (s i : ℕ) → s * (2 ^ (i + 1) * 2 ^ (i + 1)) ≡ 4 * (s * (2 ^ i * 2 ^ i))
grown s i = ap (λ (x : ℕ). s * (x * x)) (power i) ∙ ap (λ (x : ℕ). s * x) (mul-mul-mul_comm 2 (2 ^ i) 2 (2 ^ i)) ∙ mul_left_comm s 4 (2 ^ i * 2 ^ i)

pub one : (s rest q rem i : ℕ) → Turn s rest q rem i → i < 54 → q * 4 + 1 ≤ rem * 4 + rest / 2 ^ 52
    → Turn s (rest % 2 ^ 52 * 4) (q * 2 + 1) (rem * 4 + rest / 2 ^ 52 - (q * 4 + 1)) (i + 1)
one s rest q rem i t h l = record {
  most = omega arith;
  low = omega arith;
  short = omega (arith, t.short, t.low);
  few = omega (arith, t.few, power i);
  all = omega (arith, t.all, grown s i, sq_next (q * 2), sq2 q);
}

pub nil : (s rest q rem i : ℕ) → Turn s rest q rem i → i < 54 → rem * 4 + rest / 2 ^ 52 < q * 4 + 1
    → Turn s (rest % 2 ^ 52 * 4) (q * 2) (rem * 4 + rest / 2 ^ 52) (i + 1)
nil s rest q rem i t h l = record {
  most = omega arith;
  low = omega arith;
  short = omega (arith, t.short, t.low);
  few = omega (arith, t.few, power i);
  all = omega (arith, t.all, grown s i, sq2 q);
}

pub done : (s rest q rem i : ℕ) → Turn s rest q rem i → 54 ≤ i → WholePart (s * 2 ^ 54) q
done s rest q rem i t h =
    let e : s * (2 ^ 54 * 2 ^ 54) ≡ (q * q + rem) * 2 ^ 54 + rest = subst (λ (x : ℕ). s * (2 ^ x * 2 ^ x) ≡ (q * q + rem) * 2 ^ 54 + rest) (le_antisymm t.most h) t.all in
    let f : q * q + rem ≡ s * 2 ^ 54 = omega (arith, t.low) in
    record { lo = omega arith; hi = omega (arith, t.short, sq_next q) }

pub start : (s : ℕ) → s < 2 ^ 54 → Turn s s 0 0 0
start s h = record { most = omega arith; low = h; short = omega arith; few = omega arith; all = omega arith }

-- ---- a number brought to 53 digits, by the place r of its first digit
module _ (r s : ℕ) (low : 2 ^ r ≤ s) (high : s < 2 * 2 ^ r) where
  pub first_below : s < 2 ^ 52 → r ≤ 51
  first_below h = dite (dec_le r 51) (λ (l : r ≤ 51). l) (λ (n : r ≤ 51 → ⊥). let p : 2 ^ 52 ≤ 2 ^ r = pow_mono {i = 52} {j = r} (omega arith) in absurd (omega arith))

  pub record Shifted : Type 0 where
    pub same : s * 2 ^ (52 - r) * 2 ^ r ≡ s * 2 ^ 52
    pub low_53 : 2 ^ 52 ≤ s * 2 ^ (52 - r)
    pub high_53 : s * 2 ^ (52 - r) < 2 ^ 53

  pub shifted : r ≤ 51 → Shifted
  shifted h =
      let e : 52 - r + r ≡ 52 = omega arith in
      let whole : 2 ^ (52 - r) * 2 ^ r ≡ 2 ^ 52 = sym (pow-add 2 (52 - r) r) ∙ ap (λ (x : ℕ). 2 ^ x) e in
      let least : 2 ^ r * 2 ^ (52 - r) ≤ s * 2 ^ (52 - r) = mul-le-mul_right _ low in
      let most : s * 2 ^ (52 - r) < 2 * 2 ^ r * 2 ^ (52 - r) = mul-lt-mul_of_pos_right high (pow_pos _) in
      let turned : 2 ^ r * 2 ^ (52 - r) ≡ 2 ^ 52 = mul_comm (2 ^ r) _ ∙ whole in
      let twice : 2 * 2 ^ r * 2 ^ (52 - r) ≡ 2 * 2 ^ 52 = mul_assoc 2 (2 ^ r) _ ∙ ap (λ (x : ℕ). 2 * x) turned in
      record { same = mul_assoc s _ _ ∙ ap (λ (x : ℕ). s * x) whole; low_53 = omega arith; high_53 = omega arith }
