-- `less_row` meets its contract. The loop's invariant: the columns passed are those of the rule's loop so far.
use Rattle.std.proofs.Common.{sym, arith}
use Rattle.steps.specs.Loops.{loop_none, loop_more, loop_end}
use Rattle.lu.specs.Lu.{less_row}
use Rattle.lu.proofs.inner.less_row.Goals as goal

pub loop-j-init : goal.loop-j-init
loop-j-init c = sym (loop_none _ _ _)

pub loop-j-preserved : goal.loop-j-preserved
loop-j-preserved c = let turn = c.loop-j in loop_more _ turn.j _ _ turn.auto.j turn.invariant (rw (c.put.ensures, c.cell.ensures, c.cell-in-loop-j.ensures))

pub returns : goal.returns
unfolding less_row
returns c = let turn = c.loop-j in loop_end _ turn.j _ _ _ turn.invariant (omega arith) (omega arith)
