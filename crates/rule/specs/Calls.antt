-- What the fits answer and leave. Assumes nothing.
use Rattle.std.specs.Prelude.{◌≡◌, List, length, Float, Result, Ok, Err}
use Rattle.steps.specs.Space.{cleared}
use Rattle.refusal.specs.Answers.{Answer, if_done}
use Rattle.refusal.specs.declared.Refusal.{Refusal}
use Rattle.rule.specs.Rule.{Fit}
use Rattle.rule.specs.Fits.{fit_of}
use Rattle.rule.specs.Sizes.{task_need, fit_sizes}
use Rattle.rule.specs.declared.Task.{Task}
use Rattle.rule.specs.declared.Report.{Report}

-- the report of a fit
abbrev pub report_of : Fit → Report
report_of f = record { stop = f.stop; refits = f.refits; kept = record { 0 = f.kept }; error = f.error }

-- a refusal, or the report
abbrev pub fitted : Answer → Fit → Result Report Refusal
fitted (Ok done) f = Ok (report_of f)
fitted (Err w) f = Err w

-- a fit: its answer, the coefficients, and the workspace cleared over the needed length; a refusal leaves all unchanged
pub record FitCall (task : Task) (theta target cs cs' w w' : List Float) (r : Result Report Refusal) : Type 0 where
  -- what the sizes and the lengths come to
  pub sizes : Answer
  pub judged : sizes ≡ fit_sizes task (length theta) (length target) (length cs) (length w)
  pub answer : r ≡ fitted sizes (fit_of task theta target)
  pub coeffs : cs' ≡ if_done sizes (fit_of task theta target).coeffs cs
  pub space : w' ≡ if_done sizes (cleared (task_need task) w) w
