-- `tiles` meets its contract: four columns more.
use mathlib.Core.Path.{◌≡◌}
use Prim.Native.Nat.{◌+◌, ◌*◌}
use native.Mathlib.Omega.{arith}
use Rattle.pairs.proofs.Changes.{no_column, beside}
use Rattle.pairs.proofs.inner.tiles.Goals as goal

pub loop-tile-init : goal.loop-tile-init
loop-tile-init c = no_column _ _ _ _ _ _ _ (omega arith)

pub loop-tile-preserved : goal.loop-tile-preserved
loop-tile-preserved c =
    let turn = c.loop-tile in
    beside _ _ _ _ _ (c.args.p + 4 * turn.tile) _ _ _ turn.out _ (omega arith) (omega arith) (omega arith) turn.invariant c.sum_tile.ensures

pub returns : goal.returns
returns c =
    let end = c.loop-tile in
    let all : c.args.p + 4 * end.tile ≡ c.args.page.cols = omega arith in
    rw all at end.invariant
