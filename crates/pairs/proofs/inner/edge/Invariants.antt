-- The sums of the rows passed have taken the page.
use Rattle.pairs.specs.Paged.{GrewBy}
use Rattle.pairs.proofs.inner.edge.Given as goal

abbrev pub invariant-loop-p : goal.invariant-loop-p
invariant-loop-p l = GrewBy l.page 0 l.p 0 l.page.cols l.initial.out l.out
