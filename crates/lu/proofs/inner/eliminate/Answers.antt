-- `eliminate` meets its contract. The loop's invariant: the rows passed are eliminated, and the pivot is the one found first.
use Rattle.std.proofs.Common.{sym, arith}
use Rattle.steps.specs.Loops.{loop_none, loop_more, loop_end}
use Rattle.lu.specs.Lu.{lu_row, eliminated}
use Rattle.lu.proofs.inner.eliminate.Goals as goal

pub loop-i-init : goal.loop-i-init
loop-i-init c = sym (loop_none _ _ _)

pub loop-i-preserved : goal.loop-i-preserved
unfolding lu_row
loop-i-preserved c =
    let turn = c.loop-i in
    loop_more _ turn.i _ _ turn.auto.i turn.invariant (rw (c.less_row.ensures, c.put.ensures, c.cell.ensures, c.cell-pivot.ensures))

pub returns : goal.returns
unfolding eliminated
returns c = let turn = c.loop-i in loop_end _ turn.i _ _ _ turn.invariant (omega arith) (omega arith)
