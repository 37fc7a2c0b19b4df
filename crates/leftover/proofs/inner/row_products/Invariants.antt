-- s is the sum of the products of the terms passed.
use mathlib.Core.Path.{◌≡◌}
use Rattle.places.specs.Theta.{by_rows}
use Rattle.leftover.specs.Error.{products}
use Rattle.leftover.specs.Fits.{kept_entries, kept_coeffs}
use Rattle.leftover.proofs.inner.row_products.Given as goal

abbrev pub invariant-loop-p : goal.invariant-loop-p
invariant-loop-p l = l.s ≡ products l.p (kept_entries by_rows l.fit l.i) (kept_coeffs l.fit)
