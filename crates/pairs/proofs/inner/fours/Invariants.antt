-- The sums of the columns passed have taken the page.
use Prim.Native.Nat.{◌+◌, ◌*◌}
use Rattle.pairs.specs.Paged.{GrewBy}
use Rattle.pairs.proofs.inner.fours.Given as goal

abbrev pub invariant-loop-four : goal.invariant-loop-four
invariant-loop-four l = GrewBy l.page l.p (l.p + 1) l.k (l.k + 4 * l.four) l.initial.out l.out
