-- What the question why is answered, and what it leaves. Assumes nothing.
use Rattle.std.specs.Prelude.{Err, Ok, ◌≡◌, List, ℕ, length, Float, Result}
use Rattle.steps.specs.Space.{cleared}
use Rattle.refusal.specs.Answers.{if_done, Answer}
use Rattle.rule.specs.Fits.{fit_of}
use Rattle.rule.specs.Sizes.{task_need}
use Rattle.rule.specs.declared.Task.{Task}
use Rattle.why.specs.Cause.{cause_of}
use Rattle.why.specs.Sizes.{why_sizes}
use Rattle.why.specs.declared.Cause.{Cause}
use Rattle.refusal.specs.declared.Refusal.{Refusal}

-- a refusal, or the cause
abbrev pub explained : Answer → Cause → Result Cause Refusal
explained (Ok done) c = Ok c
explained (Err w) c = Err w

-- the call: its answer; coefficients and workspace as the fit leaves them; a refusal leaves all unchanged
pub record WhyCall (task : Task) (j : ℕ) (theta target cs cs' w w' : List Float) (r : Result Cause Refusal) : Type 0 where
  -- what the sizes, the question and the lengths come to
  pub sizes : Answer
  pub judged : sizes ≡ why_sizes task j (length theta) (length target) (length cs) (length w)
  pub answer : r ≡ explained sizes (cause_of task theta target j)
  pub coeffs : cs' ≡ if_done sizes (fit_of task theta target).coeffs cs
  pub space : w' ≡ if_done sizes (cleared (task_need task) w) w
