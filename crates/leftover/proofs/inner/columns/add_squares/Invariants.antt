-- The rows passed are taken.
use mathlib.Core.Path.{◌≡◌}
use lib.ListN.{length}
use Rattle.steps.specs.Num.{less, at}
use Rattle.steps.specs.Sums.{sum}
use Rattle.leftover.specs.Error.{square}
use Rattle.leftover.proofs.inner.columns.add_squares.Given as goal

abbrev pub invariant-loop-t : goal.invariant-loop-t
invariant-loop-t l = l.error ≡ sum l.start 0 (length l.yielded) (λ k. square (less (at l.target k) (at l.sums k)))
