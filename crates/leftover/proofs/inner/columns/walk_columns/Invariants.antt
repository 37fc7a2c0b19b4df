-- The rows of the pages passed are taken.
use mathlib.Core.Path.{◌≡◌}
use Prim.Native.Nat.{◌*◌, min}
use Rattle.places.specs.Theta.{by_columns}
use Rattle.leftover.specs.Fits.{fit_squares}
use Rattle.leftover.proofs.inner.columns.walk_columns.Given as goal

abbrev pub invariant-loop-page : goal.invariant-loop-page
invariant-loop-page l = l.error ≡ fit_squares by_columns (min (256 * l.page) l.rows) l.fit
