-- A NaN, as the code makes one and tests for one. Assumes nothing.
use Rattle.std.specs.Prelude.{◌≡◌, refl, Bool, true, false, T, Float}
use Rattle.std.proofs.Common.{sym, ap, ◌∙◌, subst}
use Rattle.std.specs.Float.{nan, inf, fin, binary64}
use Rattle.std.specs.Float.Ieee.{of_bits, of_fields, odd, div, ne, is_nan}
use Rattle.std.specs.Float.Ieee.Compare.{differs_from_itself, nan_differs}

-- 0.0 / 0.0
pub zero_over_zero : div binary64 (of_bits binary64 0) (of_bits binary64 0) ≡ nan
unfolding of_bits of_fields odd div
zero_over_zero = refl

-- x != x
pub differs : (x : Float) → ne x x ≡ is_nan x
unfolding is_nan
differs x = go (ne x x) refl
  where
    number : (x : Float) → ne x x ≡ false → false ≡ is_nan x
    number nan e = absurd (subst T (sym nan_differs ∙ e) tt)
    number (inf s) e = refl
    number (fin s m k) e = refl

    go : (b : Bool) → ne x x ≡ b → ne x x ≡ is_nan x
    go true e = e ∙ sym (ap is_nan (differs_from_itself x (subst T (sym e) tt)))
    go false e = e ∙ number x e
