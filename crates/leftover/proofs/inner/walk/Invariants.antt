-- The rows passed are taken.
use mathlib.Core.Path.{◌≡◌}
use Rattle.places.specs.Theta.{by_rows}
use Rattle.leftover.specs.Fits.{fit_squares}
use Rattle.leftover.proofs.inner.walk.Given as goal

abbrev pub invariant-loop-i : goal.invariant-loop-i
invariant-loop-i l = l.error ≡ fit_squares by_rows l.i l.fit
