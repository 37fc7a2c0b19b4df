-- The sums have taken the rows passed.
use Rattle.sums.specs.Inner.{Filled}
use Rattle.sums.specs.Pages.{with_targets}
use Rattle.sums.proofs.inner.walk.take_targets.Given as goal

abbrev pub invariant-loop-k : goal.invariant-loop-k
invariant-loop-k l = Filled l.n_cols (with_targets l.page l.n_cols l.k l.target l.i l.initial.sums) l.sums
