-- The longest answer. Assumes nothing.
use Rattle.std.specs.Prelude.{ℕ, ◌*◌}
use Rattle.exchange.specs.Limits.{most_cols}
use Rattle.causes.specs.Lines.{cause_bytes}

-- a line for each column
abbrev pub why_room : ℕ
why_room = most_cols * cause_bytes
