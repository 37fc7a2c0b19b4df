-- The sums have taken the rows of the pages passed.
use Prim.Native.Nat.{◌*◌, min}
use Rattle.steps.specs.Num.{at}
use Rattle.places.specs.Theta.{entries}
use Rattle.keep.specs.Taken.{KeptSums}
use Rattle.keep.proofs.inner.keep_pages.Given as goal

abbrev pub invariant-loop-number : goal.invariant-loop-number
invariant-loop-number g l = KeptSums (entries l.theta) (at l.target) l.theta.cols (min (32 * l.number) l.theta.rows) l.sums
