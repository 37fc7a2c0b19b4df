-- `turn_column` meets its contract. The loop's invariant: the rows passed have lost their part.
use Rattle.std.proofs.Common.{◌≡◌, sym, arith}
use Rattle.steps.specs.Loops.{loop_none, loop_more}
use Rattle.transpose.specs.Transpose.{qt_column}
use Rattle.transpose.proofs.inner.Factor.turn_column.Goals as goal

pub loop-i-init : goal.loop-i-init
loop-i-init c = sym (loop_none _ _ _)

pub loop-i-preserved : goal.loop-i-preserved
loop-i-preserved c = let turn = c.loop-i in loop_more _ turn.i _ _ turn.auto.i turn.invariant (rw c.led_at-v.ensures)

pub returns : goal.returns
unfolding qt_column
returns c =
    let all : c.loop-i.i ≡ c.args.self.rows = omega arith in
    rw (all, c.stored_dot-w.ensures) at c.loop-i.invariant
