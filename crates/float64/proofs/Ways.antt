-- What the root is on each way out of `sqrt`. Assumes nothing.
use Rattle.std.proofs.Common.{◌≡◌, ℕ, ◌+◌, ◌*◌, ◌/◌, ◌^◌, Bool, true, false, cond, T, sym, refl, ap, ◌∙◌, true≢false, zero-mul, mul-div_cancel, arith, ltb-true, eq-eqb, ne_eqb}
use mathlib.Core.Bool.{false≢true}
use lib.Ieee.{Float, binary64, fits, of_bits, nan, inf, fin, up, down, eq, lt, to_bits}
use lib.Ieee.Bits.{of_bits-to_bits}
use lib.Ieee.Exact.{HasValue}
use lib.Ieee.Fits.{down_pos}
use Rattle.float64.specs.Root.{units, nearest_root, root_of}
use Rattle.float64.proofs.Tests.{no_digits, some_digits, digits_below}

-- ---- the root where it is not rounded; a NaN is written by its bits
abbrev pub written : Float
written = of_bits binary64 0x7ff8_0000_0000_0000

pub root_nan : (x : Float) → x ≡ nan → written ≡ root_of x
unfolding root_of of_bits
root_nan x h = sym (ap root_of h)

pub root_zero : (x : Float) → eq x (of_bits binary64 0) ≡ true → x ≡ root_of x
unfolding root_of eq of_bits
root_zero nan h = absurd (false≢true h)
root_zero (inf s) h = absurd (false≢true h)
root_zero (fin s m e) h = sym (ap (λ (t : Bool). cond t (fin s m e) (cond s nan (nearest_root (units (fin s m e))))) (eq-eqb m 0 (no_digits s m e h)))

pub root_neg : (x : Float) → lt x (of_bits binary64 0) ≡ true → written ≡ root_of x
unfolding lt of_bits root_of
root_neg nan h = absurd (false≢true h)
root_neg (inf true) h = refl
root_neg (inf false) h = absurd (false≢true h)
root_neg (fin true m e) h = sym (ap (λ (t : Bool). cond t (fin true m e) nan) (ne_eqb m 0 (digits_below m e (ltb-true 0 (m * up e * 1 + 0 * down e) h))))
root_neg (fin false m e) h = absurd (omega (arith, ltb-true (m * up e * 1) (0 * down e) h, zero-mul (down e)))

pub root_inf : (x : Float) → T (fits binary64 x) → to_bits binary64 x ≡ 0x7ff0_0000_0000_0000 → x ≡ root_of x
unfolding root_of of_bits
root_inf x f h = let e : x ≡ inf false = sym (of_bits-to_bits binary64 x f) ∙ ap (of_bits binary64) h in e ∙ sym (ap root_of e)

-- ---- a value that has u units and is not zero has the root of u units
pub units_is : (x : Float) (u : ℕ) → HasValue x false u (2 ^ 1074) → units x ≡ u
unfolding units
units_is nan u v = absurd v
units_is (inf s) u v = absurd v
units_is (fin s m e) u v = ap (λ (y : ℕ). y / down e) v.1 ∙ mul-div_cancel u (down_pos e)

pub root_of_units : (x : Float) (u : ℕ) → HasValue x false u (2 ^ 1074) → eq x (of_bits binary64 0) ≡ false → nearest_root u ≡ root_of x
unfolding root_of eq of_bits
root_of_units nan u v k = absurd v
root_of_units (inf s) u v k = absurd v
root_of_units (fin true m e) u v k = absurd (true≢false v.0)
root_of_units (fin false m e) u v k =
    let x = fin false m e in
    sym (ap (λ (t : Bool). cond t x (nearest_root (units x))) (ne_eqb m 0 (some_digits m e k)) ∙ ap nearest_root (units_is x u v))
