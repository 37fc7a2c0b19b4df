-- `write_coefficients` writes a line a turn. Assumes nothing.
use Rattle.std.proofs.Common.{arith}
use Rattle.writer.proofs.AnswerLaws.{lines_none, lines_next}
use Rattle.writer.proofs.inner.write_coefficients.Goals as goal

pub loop-x-init : goal.loop-x-init
loop-x-init c = lines_none _ _ _

pub loop-x-preserved : goal.loop-x-preserved
loop-x-preserved c =
    lines_next _ _ _ (omega arith) c.loop-x-test.true c.write_line-next.auto.out c.bits.ensures c.loop-x.invariant c.write_line-next.ensures.written
