-- `check`: the program's own limits, before the rows are looked at. Assumes nothing.
use Rattle.std.proofs.Common.{rules}
use Rattle.frames.specs.Exchange.{before_rows, checked}
use Rattle.frames.proofs.check.Goals as goal

pub returns : goal.returns
unfolding checked
returns c = c.checked.ensures before_rows (λ task r h. search rules)
