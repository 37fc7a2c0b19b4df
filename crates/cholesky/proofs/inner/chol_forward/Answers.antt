-- `chol_forward` meets its contract. The loop's invariant: the numbers passed are those of the rule's loop so far.
use Rattle.std.proofs.Common.{sym, arith}
use Rattle.steps.specs.Loops.{loop_none, loop_more, loop_end}
use Rattle.cholesky.specs.Cholesky.{forward_at, chol_forward}
use Rattle.cholesky.proofs.inner.chol_forward.Goals as goal

pub loop-i-init : goal.loop-i-init
loop-i-init c = sym (loop_none _ _ _)

pub loop-i-preserved : goal.loop-i-preserved
unfolding forward_at
loop-i-preserved c = let turn = c.loop-i in loop_more 0 turn.i _ _ (omega arith) turn.invariant (rw (c.at.ensures, c.row_sum-s.ensures))

pub returns : goal.returns
unfolding chol_forward
returns c = let turn = c.loop-i in loop_end 0 turn.i _ _ _ turn.invariant (omega arith) (omega arith)
