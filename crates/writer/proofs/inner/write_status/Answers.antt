-- `write_status` writes the five numbers of a report, one behind the other. Assumes nothing.
use Rattle.writer.proofs.AnswerLaws.{report_written}
use Rattle.std.proofs.Common.{refl}
use Rattle.writer.proofs.inner.write_status.Goals as goal

pub returns : goal.returns
returns c =
    report_written _ c.stop_code.ensures refl c.stop_term.ensures c.bits.ensures
    c.write_hex-a.ensures.written c.write_hex-b.ensures.written c.write_hex-c.ensures.written c.write_hex-d.ensures.written c.write_line.ensures.written
