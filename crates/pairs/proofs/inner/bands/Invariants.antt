-- The sums of the rows passed have taken the page.
use Prim.Native.Nat.{◌+◌, ◌*◌}
use Rattle.pairs.specs.Paged.{GrewBy}
use Rattle.pairs.proofs.inner.bands.Given as goal

abbrev pub invariant-loop-band : goal.invariant-loop-band
invariant-loop-band l = GrewBy l.page l.k (l.k + 4 * l.band) 0 l.page.cols l.initial.out l.out
