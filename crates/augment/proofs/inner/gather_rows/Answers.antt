-- `gather_rows` meets its contract: a row more.
use mathlib.Core.Path.{◌≡◌}
use native.Mathlib.Omega.{arith}
use lib.ListN.{length}
use Rattle.steps.specs.Table.{row_fits}
use Rattle.steps.specs.Rows.{rows_none, rows_wrote}
use Rattle.augment.proofs.inner.gather_rows.Goals as goal

pub loop-i-init : goal.loop-i-init
loop-i-init c = rows_none _ _ _ _

pub take_row-requires : goal.take_row-requires
take_row-requires c =
    let kept = c.args.reduced in
    let h = c.loop-i-test.true in
    (h, omega (arith, row_fits kept.theta.rows (length kept.terms.now) c.loop-i.i h))

pub loop-i-preserved : goal.loop-i-preserved
loop-i-preserved c =
    let turn = c.loop-i in
    rows_wrote _ _ _ _ turn.i turn.s _ turn.invariant c.take_row.ensures

pub returns : goal.returns
returns c =
    let end = c.loop-i in
    let all : end.i ≡ c.args.reduced.theta.rows = omega arith in
    rw all at end.invariant
