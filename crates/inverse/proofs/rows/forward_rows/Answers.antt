-- `forward_rows` meets its contract. The loop's invariant: each column is that of the rule's loop so far.
use Rattle.std.proofs.Common.{sym, arith}
use Rattle.steps.specs.Loops.{loop_none, loop_more, loop_end}
use Rattle.cholesky.specs.Cholesky.{chol_forward}
use Rattle.inverse.proofs.rows.forward_rows.Goals as goal

pub loop-i-init : goal.loop-i-init
loop-i-init c = record { square = c.requires; each = λ j h. sym (loop_none _ _ _) }

pub loop-i-preserved : goal.loop-i-preserved
loop-i-preserved c =
    let turn = c.loop-i in
    let written = c.forward_row.ensures in
    record { square = written.square; each = λ j h. loop_more 0 turn.i _ _ (omega arith) (turn.invariant.each j h) (written.each j h) }

pub returns : goal.returns
unfolding chol_forward
returns c =
    let last = c.loop-i in
    record { square = last.invariant.square; each = λ j h. loop_end 0 last.i _ _ _ (last.invariant.each j h) (omega arith) (omega arith) }
