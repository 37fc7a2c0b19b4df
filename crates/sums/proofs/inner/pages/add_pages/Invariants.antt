-- The sums have taken the rows of the pages passed.
use Prim.Native.Nat.{◌*◌, min}
use Rattle.places.specs.Theta.{entries}
use Rattle.sums.specs.Pages.{UpperSums}
use Rattle.sums.proofs.inner.pages.add_pages.Given as goal

abbrev pub invariant-loop-number : goal.invariant-loop-number
invariant-loop-number g l = UpperSums (entries l.theta) l.theta.cols (min (32 * l.number) l.theta.rows) l.out
