-- The bench program's exchange: the bytes of an input in, those of its answer out. Assumes nothing.
use Rattle.std.specs.Prelude.{ℕ, List, ◌++◌}
use Rattle.refusal.specs.Answers.{Answer}
use Rattle.rule.specs.Rule.{Fit}
use Rattle.rule.specs.Fits.{fit_of}
use Rattle.rule.specs.Sizes.{limits}
use Rattle.rule.specs.Calls.{report_of}
use Rattle.rule.specs.declared.Task.{Task}
use Rattle.writer.specs.Answer.{report_line, coefficient_lines}
use Rattle.exchange.specs.Limits.{most_cols, most_rows}
use Rattle.exchange.specs.Exchange.{then_rows, theta_asked, target_asked, answer_by, Exchanged}

-- before the rows are looked at: 1, 2, 3 by the program's own limits
abbrev pub before_rows : Task → Answer
before_rows task = limits most_cols most_rows task

-- after a good header: these, then malformed rows or tail
unfoldable pub checked : List ℕ → Task → Answer
checked s task = then_rows (before_rows task) s task

-- the fit of an input
unfoldable pub fit_asked : List ℕ → Task → Fit
fit_asked s task = fit_of task (theta_asked s task) (target_asked s task)

-- the report's line, then a line per coefficient
unfoldable pub fit_lines : Fit → List ℕ
fit_lines f = report_line (report_of f) ++ coefficient_lines f.coeffs

abbrev pub lines_asked : List ℕ → Task → List ℕ
lines_asked s task = fit_lines (fit_asked s task)

-- the answer to an input: malformed header first, then as checked, else the fit's lines
unfoldable pub answer_of : List ℕ → List ℕ
answer_of s = answer_by before_rows lines_asked s

-- what `respond` leaves: the answer's length, its bytes at the head of the slice, and behind them what stood there before
abbrev pub Exchange : List ℕ → List ℕ → List ℕ → ℕ → Type 0
Exchange input was out r = Exchanged answer_of input was out r
