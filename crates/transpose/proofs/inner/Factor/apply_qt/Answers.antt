-- `apply_qt` meets its contract. The loop's invariant: the right-hand side is what the columns passed make of it.
use Rattle.std.proofs.Common.{◌≡◌, sym, arith}
use Rattle.steps.specs.Loops.{loop_none, loop_more}
use Rattle.transpose.specs.Transpose.{qt}
use Rattle.transpose.proofs.inner.Factor.apply_qt.Goals as goal

pub loop-j-init : goal.loop-j-init
loop-j-init c = sym (loop_none _ _ _)

pub loop-j-preserved : goal.loop-j-preserved
loop-j-preserved c = let turn = c.loop-j in loop_more 0 turn.j _ _ (omega arith) turn.invariant c.turn_column.ensures

pub returns : goal.returns
unfolding qt
returns c =
    let all : c.loop-j.j ≡ c.args.self.cols = omega arith in
    rw all at c.loop-j.invariant
