-- The units of every pattern above zero as 53 digits and a scale; so the rounded root is the nearest. Assumes nothing.
use Rattle.std.proofs.Common.{◌≡◌, ℕ, ◌+◌, ◌-◌, ◌*◌, ◌/◌, ◌%◌, ◌^◌, ◌<◌, ◌≤◌, Bool, not, T, ◌⊎◌, sym, ap, ◌∙◌, subst, inl, inr, le_trans, le_of_eq, lt_of_lt_of_le, mul-le-mul_right, mul_assoc, eq-zero-or-pos, lt_of_not-le, not-le_of_lt, arith, pow_mono, pow-add, shl_lt}
use lib.Ieee.{binary64, size, of_bits, to_bits}
use lib.Ieee.Bits.{to_bits-of_bits, nan_bits_is}
use lib.Ieee.Digits.{size-lt, size-le, size_reaches}
use Rattle.float64.specs.Parts.{WholePart, Widened}
use Rattle.float64.specs.Root.{isqrt, nearest_root}
use Rattle.float64.specs.Rule.{units_of, Nearest}
use Rattle.float64.proofs.Between.{nearest_at}
use Rattle.float64.proofs.Fields.{halved, wide, units_low, widened_high}
use Rattle.float64.proofs.Pattern.{root_at, root_small}
use Rattle.float64.proofs.Square.{isqrt_whole}
use Rattle.float64.proofs.Tests.{below_inf}

-- ---- 53 digits and a scale for the units of every pattern
abbrev Form : ℕ → Type 0
Form n = (s : ℕ) × (e : ℕ) × Widened n s e

some_size : (t : ℕ) → 0 < t → 0 < size t
some_size t h = lt_of_not-le (λ (g : size t ≤ 0). not-le_of_lt (lt_of_lt_of_le (size-lt t) (pow_mono {j = 0} g)) h)

form_low : (t : ℕ) → 0 < t → t < 2 ^ 52 → Form t
form_low t h l =
    let z = size t in
    let p : 0 < z = some_size t h in
    let q : z ≤ 52 = size-le t 52 l in
    let a : 53 - z + (z - 1) ≡ 52 = omega arith in
    let a' : z - 1 + (53 - z) ≡ 52 = omega arith in
    let b : z + (53 - z) ≡ 53 = omega arith in (
      t * 2 ^ (53 - z),
      z - 1,
      record {
        same = mul_assoc t (2 ^ (53 - z)) (2 ^ (z - 1)) ∙ ap (λ (x : ℕ). t * x) (sym (pow-add 2 (53 - z) (z - 1)) ∙ ap (λ (x : ℕ). 2 ^ x) a);
        low = le_trans (le_of_eq (sym (ap (λ (x : ℕ). 2 ^ x) a') ∙ pow-add 2 (z - 1) (53 - z))) (mul-le-mul_right (2 ^ (53 - z)) (size_reaches t (z - 1) (omega arith)));
        high = lt_of_lt_of_le (shl_lt z (53 - z) (size-lt t)) (le_of_eq (ap (λ (x : ℕ). 2 ^ x) b));
        most = omega arith;
      },
    )

pub form : (b : ℕ) → 0 < b → b < 0x7ff0_0000_0000_0000 → Form (units_of b)
form b h l = go (eq-zero-or-pos (b / 2 ^ 52))
  where
    go : (b / 2 ^ 52 ≡ 0) ⊎ (0 < b / 2 ^ 52) → Form (units_of b)
    go (inl z) = subst Form (sym (units_low b z)) (form_low (b % 2 ^ 52) (omega arith) (omega arith))
    go (inr z) =
        (2 ^ 52 + b % 2 ^ 52, b / 2 ^ 52 + 51, widened_high b l (λ y. omega arith))

-- ---- the rounded root is the nearest
pub nearest_form : (n : ℕ) → Form n → Nearest n (to_bits binary64 (nearest_root n))
nearest_form n (g, e, W) =
    let s = g * (1 + e % 2) in
    let h = e / 2 in
    let w = wide g (e % 2) W.low W.high (omega arith) in
    let q = isqrt 54 (s * 2 ^ 54) in
    let Q : WholePart (s * 2 ^ 54) q = isqrt_whole 54 (s * 2 ^ 54) (omega (arith, w.1)) in
    let k' : n * 2 ^ 52 ≡ s * 2 ^ h * 2 ^ h = sym W.same ∙ sym (halved g e) in
    let H : h ≤ 1048 = omega (arith, W.most) in
    let b = (485 + h) * 2 ^ 52 + (q + 1) / 2 in
    let r : of_bits binary64 b ≡ nearest_root n = root_at n s h q k' w.0 w.1 H Q in
    let small : b < 0x7ff0_0000_0000_0000 = root_small n s h q k' w.0 w.1 H Q in
    let t : to_bits binary64 (nearest_root n) ≡ b = ap (to_bits binary64) (sym r) ∙ to_bits-of_bits binary64 b (omega arith) (subst (λ (y : Bool). T (not y)) (nan_bits_is binary64 b) (below_inf b small)) in
    subst (λ (y : ℕ). Nearest n y) (sym t) (nearest_at n s h q k' w.0 w.1 Q)
