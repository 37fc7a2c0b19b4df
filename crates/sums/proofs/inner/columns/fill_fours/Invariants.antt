-- The page has the columns of the fours passed.
use Prim.Native.Nat.{◌*◌}
use Rattle.places.specs.Theta.{by_columns}
use Rattle.places.specs.Down.{HoldsAt}
use Rattle.sums.proofs.inner.columns.fill_fours.Given as goal

abbrev pub invariant-loop-four : goal.invariant-loop-four
invariant-loop-four l = HoldsAt (λ c. c) (4 * l.four) (by_columns l.theta) l.theta.cols l.i l.h l.page
