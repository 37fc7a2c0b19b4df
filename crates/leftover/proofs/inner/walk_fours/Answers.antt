-- `walk_fours` meets its contract: four rows more.
use Prim.Native.Nat.{◌+◌, ◌*◌}
use native.Mathlib.Omega.{arith}
use Rattle.leftover.proofs.Walks.{rows_none, rows_more, rows_end}
use Rattle.leftover.proofs.inner.walk_fours.Goals as goal

pub loop-four-init : goal.loop-four-init
loop-four-init c = rows_none _ _ _ _

pub loop-four-preserved : goal.loop-four-preserved
loop-four-preserved c =
    let turn = c.loop-four in
    rows_end _ _ _ _ (4 * turn.four + 4) _ (rows_more _ _ _ _ (4 * turn.four) turn.invariant c.add_four-error.ensures) (omega arith)

pub returns : goal.returns
returns c =
    rows_end _ _ _ _ (4 * c.loop-four.four) _ c.loop-four.invariant (omega arith)
