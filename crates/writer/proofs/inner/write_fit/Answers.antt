-- `write_fit` writes the report's line, and behind it the coefficients'. Assumes nothing.
use Rattle.std.proofs.Common.{arith}
use Rattle.hexdigits.specs.Put.{written_then}
use Rattle.writer.specs.Lines.{length_report}
use Rattle.writer.proofs.inner.write_fit.Goals as goal

pub write_coefficients-requires : goal.write_coefficients-requires
write_coefficients-requires c = omega (arith, c.write_status-at.ensures.place, length_report c.args.report)

pub returns : goal.returns
returns c = written_then (omega arith) c.write_status-at.ensures c.write_coefficients.ensures
