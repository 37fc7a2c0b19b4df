-- The rows of the fours passed are taken.
use mathlib.Core.Path.{◌≡◌}
use Prim.Native.Nat.{◌*◌}
use Rattle.places.specs.Theta.{by_rows}
use Rattle.leftover.specs.Fits.{fit_squares}
use Rattle.leftover.proofs.inner.walk_fours.Given as goal

abbrev pub invariant-loop-four : goal.invariant-loop-four
invariant-loop-four l = l.error ≡ fit_squares by_rows (4 * l.four) l.fit
