-- The answer by its cases, and what was tested of an accepted input. Assumes nothing.
use Rattle.std.specs.Prelude.{None, Ok, Err, Some, ◌≡◌, List, ℕ}
use Rattle.refusal.specs.Ladder.{both_done}
use Rattle.refusal.specs.Answers.{Answer}
use Rattle.refusal.specs.declared.Refusal.{Refusal}
use Rattle.refusal.specs.declared.Refusal.TheVariants.{Malformed}
use Rattle.rule.specs.Sizes.{limits, Limited, limits_hold}
use Rattle.rule.specs.declared.Task.{Task}
use Rattle.reader.specs.Header.{head_of}
use Rattle.writer.specs.Answer.{refusal_line}
use Rattle.exchange.specs.Limits.{most_cols, most_rows}
use Rattle.exchange.specs.Exchange.{Accepted, passed, answer_lines}
use Rattle.exchange.specs.Laws.{by_wrong, by_good, by_passed, by_refused, then_accepted}
use Rattle.causes.specs.Exchange.{why_before, why_checked, cause_lines_asked, causes_of}

-- a malformed header
pub causes_wrong : (s : List ℕ) → head_of s ≡ None → causes_of s ≡ refusal_line Malformed
unfolding causes_of
causes_wrong = by_wrong why_before cause_lines_asked

-- a good one
pub causes_good : (s : List ℕ) (task : Task) (a : Answer) → head_of s ≡ Some task → why_checked s task ≡ a → causes_of s ≡ answer_lines cause_lines_asked s task a
unfolding causes_of why_checked
causes_good = by_good why_before cause_lines_asked

-- a task that is not refused before its rows is within the limits
pub before_limits : (task : Task) → why_before task ≡ Ok tt → Limited most_cols most_rows task
unfolding why_before
before_limits task e = limits_hold (both_done (limits most_cols most_rows task) _ e).0

-- an accepted input is, and its rows are well formed
pub why_was_accepted : (s : List ℕ) (task : Task) → why_checked s task ≡ Ok tt → Accepted s task
unfolding why_checked
why_was_accepted s task = then_accepted s task (before_limits task)

-- by what the check of an input answers: the lines of an accepted input, or a refusal's
module _ (s : List ℕ) where
  pub causes_passed : (task : Task) → passed (why_checked s) (head_of s) ≡ Ok task → causes_of s ≡ cause_lines_asked s task
  unfolding causes_of why_checked
  causes_passed task e = by_passed why_before cause_lines_asked s task e

  pub causes_refused : (w : Refusal) → passed (why_checked s) (head_of s) ≡ Err w → causes_of s ≡ refusal_line w
  unfolding causes_of why_checked
  causes_refused w e = by_refused why_before cause_lines_asked s w e
