-- What an accepted input asks: `asked_true` and `asked_only` (proofs/Promises) say that what the program says of it is true by the rule. Assumes nothing.
use Rattle.std.specs.Prelude.{List, ℕ}
use Rattle.rule.specs.Rule.{Problem}
use Rattle.rule.specs.Fits.{problem_of}
use Rattle.rule.specs.declared.Task.{Task}
use Rattle.exchange.specs.Exchange.{theta_asked, target_asked}

-- the problem that an input's fit is the rule of
abbrev pub problem_asked : List ℕ → Task → Problem
problem_asked s task = problem_of task (theta_asked s task) (target_asked s task)
