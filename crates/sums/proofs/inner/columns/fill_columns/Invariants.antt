-- The page has the columns passed.
use Rattle.places.specs.Theta.{by_columns}
use Rattle.places.specs.Down.{HoldsAt}
use Rattle.sums.proofs.inner.columns.fill_columns.Given as goal

abbrev pub invariant-loop-j : goal.invariant-loop-j
invariant-loop-j l = HoldsAt (λ c. c) l.j (by_columns l.theta) l.theta.cols l.i l.h l.page
