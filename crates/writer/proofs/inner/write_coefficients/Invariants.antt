-- `write_coefficients` writes a line a turn. The loop's invariant: the lines of the coefficients so far are written. Assumes nothing.
use Rattle.writer.proofs.AnswerLaws.{Lines}
use Rattle.writer.proofs.inner.write_coefficients.Given as goal

abbrev pub invariant-loop-x : goal.invariant-loop-x
invariant-loop-x l = Lines l.coeffs l.at l.initial.out l.x-index l.out l.next
