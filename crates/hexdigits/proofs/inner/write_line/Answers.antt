-- `write_line` puts a newline behind the digits. Assumes nothing.
use Rattle.std.proofs.Common.{arith}
use Rattle.hexdigits.specs.Put.{written_then, written_one}
use Rattle.hexdigits.proofs.inner.write_line.Goals as goal

pub returns-clause-written : goal.returns-clause-written
returns-clause-written c = written_then (omega arith) c.write_hex-end.ensures.written (written_one _ _ _ (omega arith))
