-- The sums of the columns passed have taken the page.
use Prim.Native.Nat.{◌+◌}
use Rattle.pairs.specs.Paged.{GrewBy}
use Rattle.pairs.proofs.inner.ones.Given as goal

abbrev pub invariant-loop-q : goal.invariant-loop-q
invariant-loop-q l = GrewBy l.page l.p (l.p + 1) l.p l.q l.initial.out l.out
