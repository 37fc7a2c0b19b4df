-- An export gives its call's answer as a number, and a fit its report and its error beside it. Assumes nothing.
use Rattle.std.specs.Prelude.{Err, None, Ok, Some, ◌≡◌, cond, List, [], ◌∷◌, ℕ, ltb, Float, Option, Result}
use Rattle.refusal.specs.Answers.{answer_column, Answer}
use Rattle.rule.specs.Sizes.{fit_need}
use Rattle.rule.specs.Codes.{stop_code, stop_term}
use Rattle.rule.specs.declared.Solver.{Solver}
use Rattle.rule.specs.declared.Report.{Report}
use Rattle.refusal.specs.declared.Refusal.{Refusal}

-- r is the number of an answer that the call C allows
pub record Numbered {A : Type 0} (number_of : A → ℕ) (C : A → Type 0) (r : ℕ) : Type 0 where
  pub answer : A
  pub call : C answer
  pub number : r ≡ number_of answer

-- stop, refits, kept word and refused term after a fit; a refusal leaves the report unchanged
abbrev pub report_numbers : Result Report Refusal → List ℕ → List ℕ
report_numbers (Ok f) old = stop_code f.stop ∷ f.refits ∷ f.kept.0 ∷ stop_term f.stop ∷ []
report_numbers (Err w) old = old

-- the squared error after a fit; a refusal leaves it unchanged
abbrev pub report_error : Result Report Refusal → List Float → List Float
report_error (Ok f) old = f.error ∷ []
report_error (Err w) old = old

-- the call C of a fit, its report and its error
pub record Reported (C : Result Report Refusal → Type 0) (old new : List ℕ) (was is : List Float) (answer : Result Report Refusal) : Type 0 where
  pub fit : C answer
  pub report : new ≡ report_numbers answer old
  pub error : is ≡ report_error answer was

-- the column at which a solver refused; where it tells none, what stood there
abbrev pub column_numbers : Option ℕ → List ℕ → List ℕ
column_numbers None old = old
column_numbers (Some c) old = c ∷ []

-- the call C of a solver, and its column
pub record WithColumn (C : Answer → Type 0) (old new : List ℕ) (answer : Answer) : Type 0 where
  pub solve : C answer
  pub column : new ≡ column_numbers (answer_column answer) old

-- the workspace that a fit of these sizes needs; 0 where they are beyond the limits
unfoldable pub workspace : Solver → ℕ → ℕ → ℕ
workspace solver rows n = cond (ltb 64 n) 0 (cond (ltb 4096 rows) 0 (fit_need solver rows n))
