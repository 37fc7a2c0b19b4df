-- The longest answer. Assumes nothing.
use Rattle.std.specs.Prelude.{ℕ, ◌+◌, ◌*◌}
use Rattle.writer.specs.Answer.{report_bytes, coefficient_bytes}
use Rattle.exchange.specs.Limits.{most_cols}

-- a report, and a coefficient for each column
abbrev pub answer_room : ℕ
answer_room = report_bytes + most_cols * coefficient_bytes
