-- `lessen_above` meets its contract. The loop's invariant: the entries passed have lost their part.
use Rattle.std.proofs.Common.{sym, arith}
use Rattle.steps.specs.Loops.{loop_none, loop_more, loop_end}
use Rattle.least.specs.Least.{above}
use Rattle.least.proofs.inner.lessen_above.Goals as goal

pub loop-i-init : goal.loop-i-init
loop-i-init c = sym (loop_none _ _ _)

pub loop-i-preserved : goal.loop-i-preserved
loop-i-preserved c = let turn = c.loop-i in loop_more 0 turn.i _ _ (omega arith) turn.invariant (rw c.at.ensures)

pub returns : goal.returns
unfolding above
returns c = let turn = c.loop-i in loop_end 0 turn.i _ _ _ turn.invariant (omega arith) (omega arith)
