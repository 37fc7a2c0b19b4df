-- The sums of the columns passed have taken the page.
use Prim.Native.Nat.{◌+◌, ◌*◌}
use Rattle.pairs.specs.Paged.{GrewBy}
use Rattle.pairs.proofs.inner.tiles.Given as goal

abbrev pub invariant-loop-tile : goal.invariant-loop-tile
invariant-loop-tile l = GrewBy l.page l.p (l.p + 4) l.p (l.p + 4 * l.tile) l.initial.out l.out
