-- The rows passed have the four columns.
use Rattle.places.specs.Theta.{by_columns}
use Rattle.sums.specs.Partly.{Partly}
use Rattle.sums.proofs.inner.columns.fill_four.Given as goal

abbrev pub invariant-loop-k : goal.invariant-loop-k
invariant-loop-k l = Partly (by_columns l.theta) l.theta.cols l.i l.h l.j l.k l.page
