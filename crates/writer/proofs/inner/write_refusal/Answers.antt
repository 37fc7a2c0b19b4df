-- `write_refusal` writes `ff` and then the number's line. Assumes nothing.
use Rattle.writer.proofs.AnswerLaws.{refusal_written}
use Rattle.writer.proofs.inner.write_refusal.Goals as goal

pub returns : goal.returns
returns c = refusal_written _ c.number.ensures c.write_hex-a.ensures.written c.write_line.ensures.written
