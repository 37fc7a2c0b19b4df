-- `gather_columns` meets its contract: a page more.
use mathlib.Core.Path.{◌≡◌}
use Prim.Native.Nat.{◌+◌, ◌*◌, min}
use native.Mathlib.Omega.{arith}
use Rattle.steps.specs.Rows.{rows_none}
use Rattle.augment.specs.Taken.{rows_taken}
use Rattle.augment.proofs.inner.columns.gather_columns.Goals as goal

pub loop-page-init : goal.loop-page-init
loop-page-init c = let none : min 0 c.args.reduced.theta.rows ≡ 0 = omega arith in rw none (rows_none _ _ _ _)

pub loop-page-preserved : goal.loop-page-preserved
loop-page-preserved c =
    let turn = c.loop-page in
    let rows = c.args.reduced.theta.rows in
    let i = 32 * turn.page in
    let before : min i rows ≡ i = omega arith in
    let after : min (32 * (turn.page + 1)) rows ≡ i + c.min-h.result = omega arith in
    rw after (rows_taken _ _ _ _ _ _ turn.s _ (rw before at turn.invariant) c.take_columns.ensures)

pub returns : goal.returns
returns c =
    let rows = c.args.reduced.theta.rows in
    let all : min (32 * c.loop-page.page) rows ≡ rows = omega arith in
    rw all at c.loop-page.invariant
