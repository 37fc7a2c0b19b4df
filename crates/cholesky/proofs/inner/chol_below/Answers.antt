-- `chol_below` meets its contract. The loop's invariant: the rows passed are those of the rule's loop so far.
use Rattle.std.proofs.Common.{sym, arith}
use Rattle.steps.specs.Loops.{loop_none, loop_more, loop_end}
use Rattle.cholesky.specs.Cholesky.{chol_below}
use Rattle.cholesky.proofs.inner.chol_below.Goals as goal

pub loop-i-init : goal.loop-i-init
loop-i-init c = sym (loop_none _ _ _)

pub loop-i-preserved : goal.loop-i-preserved
loop-i-preserved c = let turn = c.loop-i in loop_more _ turn.i _ _ turn.auto.i turn.invariant (rw (c.put.ensures, c.row_less-s.ensures))

pub returns : goal.returns
unfolding chol_below
returns c = let turn = c.loop-i in loop_end _ turn.i _ _ _ turn.invariant (omega arith) (omega arith)
