-- The exchange of the program that says why: the bytes of an input in, a line for each term out. Assumes nothing.
use Rattle.std.specs.Prelude.{ℕ, List}
use Rattle.refusal.specs.Answers.{and_then, Answer}
use Rattle.rule.specs.Sizes.{limits}
use Rattle.rule.specs.declared.Task.{Task}
use Rattle.rule.specs.declared.given.Given.{Given}
use Rattle.exchange.specs.Limits.{most_cols, most_rows}
use Rattle.exchange.specs.Exchange.{then_rows, theta_asked, target_asked, answer_by}
use Rattle.why.specs.Sizes.{low_threshold}
use Rattle.why.specs.Cause.{cause_of}
use Rattle.why.specs.declared.Cause.{Cause}
use Rattle.causes.specs.Lines.{cause_lines}

-- before the rows are looked at: 1, 2, 3 by the program's own limits, then 12, a threshold that is not above zero
unfoldable pub why_before : Task → Answer
why_before task = and_then (limits most_cols most_rows task) (low_threshold task.setup)

-- after a good header: these, then malformed rows or tail
unfoldable pub why_checked : List ℕ → Task → Answer
why_checked s task = then_rows (why_before task) s task

-- why the term j ended as it did in the fit of what is given
abbrev pub cause_given : Given → ℕ → Cause
cause_given g = cause_of g.task g.theta.now g.target.now

-- the same in the fit of an input
abbrev pub cause_asked : List ℕ → Task → ℕ → Cause
cause_asked s task j = cause_of task (theta_asked s task) (target_asked s task) j

-- a line for each term
abbrev pub cause_lines_asked : List ℕ → Task → List ℕ
cause_lines_asked s task = cause_lines (cause_asked s task) task.cols

-- the answer to an input: malformed header first, then as checked, else the lines
unfoldable pub causes_of : List ℕ → List ℕ
causes_of s = answer_by why_before cause_lines_asked s
