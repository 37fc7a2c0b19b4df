-- A threshold above zero: a number is at or above it exactly if it is not below it. Assumes nothing.
use Rattle.std.specs.Prelude.{◌≡◌, refl, Bool, true, false, not, ◌||◌, ◌&&◌, ℕ, ◌*◌, T, eqb, ltb, Float}
use Rattle.std.proofs.Common.{sym, ap, ◌∙◌, ⊎_elim, eq-or-lt_of_le, arith, ltb-true, ltb-false, lt-ltb, le-ltb, eq-eqb, ne_eqb}
use Rattle.std.specs.Float.{nan, inf, fin}
use Rattle.std.specs.Float.Ieee.{of_bits, lt, le, eq, up, down, is_nan}
use Rattle.steps.specs.Num.{+zero}
use Rattle.float64.specs.Root.{abs_of}
use Rattle.support.specs.WordLaws.{passes}

-- of two counts, the first is at or below the second exactly if the second is not below the first
at_or_below : (x y : ℕ) → (ltb x y || (eqb x y && true)) ≡ not (ltb y x)
at_or_below x y = go (ltb y x) refl
  where
    go : (b : Bool) → ltb y x ≡ b → (ltb x y || (eqb x y && true)) ≡ not b
    go true e = let l = ltb-true y x e in rw (le-ltb x y (omega (arith, l)), ne_eqb x y (λ q. omega (arith, l, q)))
    go false e = ⊎_elim (λ q. rw (le-ltb x y (omega (arith, q)), eq-eqb x y q)) (λ l. rw (lt-ltb x y l)) (eq-or-lt_of_le (ltb-false y x e))

-- so for the magnitude of a number, which is no NaN
pub not_below : (threshold c : Float) → T (lt +zero threshold) → is_nan c ≡ false → le threshold (abs_of c) ≡ not (lt (abs_of c) threshold)
unfolding lt le eq abs_of is_nan of_bits
not_below nan c h n = absurd h
not_below (inf true) c h n = absurd h
not_below (inf false) nan h n = sym n
not_below (inf false) (inf s) h n = refl
not_below (inf false) (fin s m x) h n = refl
not_below (fin true k y) c h n = absurd h
not_below (fin false k y) nan h n = sym n
not_below (fin false k y) (inf s) h n = refl
not_below (fin false k y) (fin s m x) h n = at_or_below (k * up y * down x) (m * up x * down y)

-- +0.0 is below it
pub zero_below : (threshold : Float) → T (lt +zero threshold) → le threshold (abs_of +zero) ≡ false
unfolding abs_of is_nan of_bits
zero_below threshold h = not_below threshold +zero h refl ∙ ap not (passes (lt +zero threshold) h)

-- a NaN is at or above no threshold, and below none
pub nan_below : (threshold : Float) → le threshold (abs_of nan) ≡ false
unfolding abs_of le lt eq
nan_below nan = refl
nan_below (inf s) = refl
nan_below (fin s m e) = refl

pub nan_not_below : (threshold : Float) → lt (abs_of nan) threshold ≡ false
unfolding abs_of lt
nan_not_below threshold = refl
