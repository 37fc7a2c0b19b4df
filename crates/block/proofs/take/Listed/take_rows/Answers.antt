-- `take_rows` meets its contract: a turn of the loop takes one row more, and after it all are taken.
use Rattle.std.proofs.Common.{◌≡◌, length, arith}
use Rattle.steps.specs.Rows.{rows_none, rows_wrote, rows_end}
use Rattle.block.proofs.take.Listed.take_rows.Goals as goal

pub loop-p-init : goal.loop-p-init
loop-p-init c = rows_none _ _ _ _

pub loop-p-preserved : goal.loop-p-preserved
loop-p-preserved c = rows_wrote _ _ _ _ _ _ _ c.loop-p.invariant c.take_row.ensures

pub returns : goal.returns
returns c =
    let end = c.loop-p in
    let all : end.p ≡ length c.args.self.terms.now = omega arith in
    rows_end _ _ _ _ _ c.requires (rw all at end.invariant)
