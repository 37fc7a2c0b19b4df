-- `write_cause` writes the three numbers of a cause, one behind the other. Assumes nothing.
use Rattle.std.proofs.Common.{ap, ◌∙◌, arith}
use Rattle.hexdigits.specs.Hex.{bits as bits_of}
use Rattle.causes.proofs.Telling.{cause_written}
use Rattle.causes.proofs.lines.write_cause.Goals as goal

pub returns : goal.returns
returns c =
    cause_written _ (omega arith) c.cause_code.ensures c.cause_refit.ensures (c.bits.ensures ∙ ap bits_of c.cause_value.ensures)
    c.write_hex-a.ensures.written c.write_hex-b.ensures.written c.write_line.ensures.written
