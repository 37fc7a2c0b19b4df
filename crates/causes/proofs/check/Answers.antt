-- `check`: what refuses a task before the rows are looked at. Assumes nothing.
use Rattle.std.proofs.Common.{rules}
use Rattle.causes.specs.Exchange.{why_before, why_checked}
use Rattle.causes.proofs.check.Goals as goal

pub returns : goal.returns
unfolding why_checked
returns c = c.checked.ensures why_before (λ task r h. search rules)
