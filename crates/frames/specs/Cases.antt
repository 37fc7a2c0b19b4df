-- The answer by its cases, and what was tested of an accepted input. Assumes nothing.
use Rattle.std.specs.Prelude.{None, Ok, Err, Some, ◌≡◌, List, ℕ}
use Rattle.refusal.specs.Answers.{Answer}
use Rattle.refusal.specs.declared.Refusal.{Refusal}
use Rattle.refusal.specs.declared.Refusal.TheVariants.{Malformed}
use Rattle.rule.specs.Sizes.{limits_hold}
use Rattle.rule.specs.declared.Task.{Task}
use Rattle.reader.specs.Header.{head_of}
use Rattle.writer.specs.Answer.{refusal_line}
use Rattle.exchange.specs.Exchange.{Accepted, passed, answer_lines}
use Rattle.exchange.specs.Laws.{by_wrong, by_good, by_passed, by_refused, passed_ok, then_accepted}
use Rattle.frames.specs.Exchange.{before_rows, checked, lines_asked, answer_of}

-- a malformed header
pub answer_wrong : (s : List ℕ) → head_of s ≡ None → answer_of s ≡ refusal_line Malformed
unfolding answer_of
answer_wrong = by_wrong before_rows lines_asked

-- a good one
pub answer_good : (s : List ℕ) (task : Task) (a : Answer) → head_of s ≡ Some task → checked s task ≡ a → answer_of s ≡ answer_lines lines_asked s task a
unfolding answer_of checked
answer_good = by_good before_rows lines_asked

-- an accepted input is within the limits, and its rows are well formed
pub was_accepted : (s : List ℕ) (task : Task) → checked s task ≡ Ok tt → Accepted s task
unfolding checked
was_accepted s task = then_accepted s task limits_hold

-- by what the check of an input answers: the lines of an accepted input, or a refusal's
module _ (s : List ℕ) where
  pub answer_passed : (task : Task) → passed (checked s) (head_of s) ≡ Ok task → answer_of s ≡ lines_asked s task
  unfolding answer_of checked
  answer_passed task e = by_passed before_rows lines_asked s task e

  pub answer_refused : (w : Refusal) → passed (checked s) (head_of s) ≡ Err w → answer_of s ≡ refusal_line w
  unfolding answer_of checked
  answer_refused w e = by_refused before_rows lines_asked s w e

  pub passed_accepted : (task : Task) → passed (checked s) (head_of s) ≡ Ok task → Accepted s task
  passed_accepted task e = was_accepted s task (passed_ok (checked s) (head_of s) task e)
