-- `bands` meets its contract: four rows more.
use mathlib.Core.Path.{◌≡◌}
use Prim.Native.Nat.{◌+◌, ◌*◌}
use native.Mathlib.Omega.{arith}
use Rattle.pairs.proofs.Changes.{no_row, below, from_zero}
use Rattle.pairs.proofs.inner.bands.Goals as goal

pub loop-band-init : goal.loop-band-init
loop-band-init c = no_row _ _ _ _ _ _ _ (omega arith)

pub loop-band-preserved : goal.loop-band-preserved
loop-band-preserved c =
    let turn = c.loop-band in
    below _ _ _ (c.args.k + 4 * turn.band) _ _ _ _ _ turn.out _ (omega arith) (omega arith) (omega arith) turn.invariant (from_zero _ _ _ _ _ _ _ c.tiles.ensures)

pub returns : goal.returns
returns c =
    let end = c.loop-band in
    let all : c.args.k + 4 * end.band ≡ c.args.page.cols = omega arith in
    rw all at end.invariant
