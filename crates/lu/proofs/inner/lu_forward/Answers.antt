-- `lu_forward` meets its contract. The loop's invariant: the numbers passed are those of the rule's loop so far.
use Rattle.std.proofs.Common.{sym, arith}
use Rattle.steps.specs.Loops.{loop_none, loop_more, loop_end}
use Rattle.lu.specs.Lu.{lu_forward}
use Rattle.lu.proofs.inner.lu_forward.Goals as goal

pub loop-i-init : goal.loop-i-init
loop-i-init c = sym (loop_none _ _ _)

pub loop-i-preserved : goal.loop-i-preserved
loop-i-preserved c = let turn = c.loop-i in loop_more 0 turn.i _ _ (omega arith) turn.invariant (rw c.row_sum.ensures)

pub returns : goal.returns
unfolding lu_forward
returns c = let turn = c.loop-i in loop_end 0 turn.i _ _ _ turn.invariant (omega arith) (omega arith)
