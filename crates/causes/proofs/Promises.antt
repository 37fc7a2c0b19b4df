-- What the program says of an accepted input is true by the rule. Assumes nothing.
use Rattle.std.specs.Prelude.{Ok, ◌≡◌, List, ℕ, ◌<◌, T}
use Rattle.std.specs.Float.Ieee.{lt}
use Rattle.steps.specs.Num.{+zero, at}
use Rattle.refusal.specs.Ladder.{both_done}
use Rattle.rule.specs.Fits.{matrix_of}
use Rattle.rule.specs.Sizes.{limits}
use Rattle.rule.specs.declared.Task.{Task}
use Rattle.exchange.specs.Limits.{most_cols, most_rows}
use Rattle.exchange.specs.Exchange.{then_rows, theta_asked, target_asked}
use Rattle.why.specs.Sizes.{above_zero}
use Rattle.why.specs.Truth.{Truly}
use Rattle.why.proofs.Promises.{why_true, why_only}
use Rattle.why.specs.declared.Cause.{Cause}
use Rattle.causes.specs.Promises.{problem_asked}
use Rattle.causes.specs.Exchange.{why_before, why_checked, cause_asked}

-- of an accepted input, and one of its terms
module _ (s : List ℕ) (task : Task) (ok : why_checked s task ≡ Ok tt) (j : ℕ) (below : j < task.cols) where
  high : T (lt +zero task.setup.threshold)
  unfolding why_checked then_rows why_before
  high =
      let before = (both_done (why_before task) _ ok).0 in
      above_zero task.setup (both_done (limits most_cols most_rows task) _ before).1

  -- the cause on its line is true
  pub asked_true : Truly (problem_asked s task) task.setup.max_iter j (cause_asked s task j)
  asked_true = why_true task (matrix_of task (theta_asked s task)) (at (target_asked s task)) high j below

  -- and no other is
  pub asked_only : (c : Cause) → Truly (problem_asked s task) task.setup.max_iter j c → c ≡ cause_asked s task j
  asked_only = why_only task (matrix_of task (theta_asked s task)) (at (target_asked s task)) high j below
