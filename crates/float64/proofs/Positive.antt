-- What the tests say of a finite value above zero, and the rule's case of it. Assumes nothing.
use Rattle.std.proofs.Common.{◌≡◌, ℕ, ◌*◌, ◌^◌, ◌<◌, Bool, true, false, not, ◌&&◌, T, ltb, ℤ, sym, ap, ◌∙◌, subst, mul-pos, zero-mul, mul-one, arith, ltb→lt, le-ltb, ne_eqb}
use lib.Ieee.{Float, binary64, fits, of_bits, nan, inf, fin, up, down, eq, lt, is_nan, to_bits}
use lib.Ieee.Bits.{of_bits-to_bits}
use lib.Ieee.Exact.{HasValue}
use lib.Ieee.Fits.{up_pos}
use lib.Ieee.Positive.{positive}
use Rattle.float64.specs.Root.{units, root_of}
use Rattle.float64.specs.Rule.{units_of, Nearest}
use Rattle.float64.proofs.Form.{form, nearest_form}
use Rattle.float64.proofs.Values.{in_range, value}
use Rattle.float64.proofs.Ways.{units_is, root_of_units}

-- ---- what the tests say of a finite value above zero
pos_no_nan : (x : Float) → T (positive x) → T (not (is_nan x))
unfolding is_nan
pos_no_nan nan p = absurd p
pos_no_nan (inf s) p = absurd p
pos_no_nan (fin s m e) p = tt

pub above_zero : (m : ℕ) (e : ℤ) → T (ltb 0 m) → 0 * down e < m * up e * 1
above_zero m e p = omega (arith, mul-one (m * up e), zero-mul (down e), mul-pos (ltb→lt 0 m p) (up_pos e))

pos_eq : (x : Float) → T (positive x) → eq x (of_bits binary64 0) ≡ false
unfolding eq of_bits
pos_eq nan p = absurd p
pos_eq (inf s) p = absurd p
pos_eq (fin true m e) p = absurd p
pos_eq (fin false m e) p = ap (λ (t : Bool). t && true) (ne_eqb (m * up e * 1) (0 * down e) (λ z. omega (arith, above_zero m e p)))

pos_lt : (x : Float) → T (positive x) → lt x (of_bits binary64 0) ≡ false
unfolding lt of_bits
pos_lt nan p = absurd p
pos_lt (inf s) p = absurd p
pos_lt (fin true m e) p = absurd p
pos_lt (fin false m e) p = le-ltb (m * up e * 1) (0 * down e) (omega (arith, above_zero m e p))

pos_finite : (x : Float) → T (fits binary64 x) → T (positive x) → to_bits binary64 x ≡ 0x7ff0_0000_0000_0000 → ⊥
unfolding of_bits
pos_finite x f p i = subst (λ (v : Float). T (positive v)) (sym (of_bits-to_bits binary64 x f) ∙ ap (of_bits binary64) i) p

-- ---- the rule's case of a number above zero
module _ (x : Float) (f : T (fits binary64 x)) (p : T (positive x)) where
  abbrev b : ℕ
  b = to_bits binary64 x

  range : (0 < b) × (b < 0x7ff0_0000_0000_0000)
  range = in_range x f (pos_no_nan x p) (pos_eq x p) (pos_lt x p) (pos_finite x f p)

  has_units : HasValue x false (units_of b) (2 ^ 1074)
  has_units = value x f (pos_no_nan x p) (pos_eq x p) (pos_lt x p) (pos_finite x f p)

  -- x lies strictly between the squares of the two midpoints around its root
  pub root_nearest : Nearest (units x) (to_bits binary64 (root_of x))
  root_nearest =
      subst (λ (n : ℕ). Nearest n (to_bits binary64 (root_of x))) (sym (units_is x (units_of b) has_units))
      (subst (λ (v : Float). Nearest (units_of b) (to_bits binary64 v)) (root_of_units x (units_of b) has_units (pos_eq x p))
      (nearest_form (units_of b) (form b range.0 range.1)))
