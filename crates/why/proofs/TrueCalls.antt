-- What a call of `why` answers, whose contract is `WhyCall`, is the true cause by the rule, and no other is true. Assumes nothing.
use Rattle.std.specs.Prelude.{Err, Ok, ◌≡◌, refl, List, ℕ, ◌<◌, T, Float}
use Rattle.std.proofs.Common.{sym, ◌∙◌, subst}
use Rattle.std.specs.Float.Ieee.{lt}
use Rattle.steps.specs.Num.{+zero, at}
use Rattle.refusal.specs.Answers.{Answer}
use Rattle.rule.specs.Fits.{matrix_of, problem_of}
use Rattle.rule.specs.declared.Task.{Task}
use Rattle.why.specs.declared.Cause.{Cause}
use Rattle.why.specs.Cause.{cause_of}
use Rattle.why.specs.Truth.{Truly}
use Rattle.why.specs.Sizes.{why_asked}
use Rattle.why.specs.Calls.{explained, WhyCall}
use Rattle.why.proofs.Promises.{why_true, why_only}

-- a cause is answered only where nothing is refused
because_done : (a : Answer) (c d : Cause) → Ok c ≡ explained a d → (a ≡ Ok tt) × (c ≡ d)
because_done (Ok done) c d e = (refl, cc)
because_done (Err w) c d e = absurd cc

-- a call that answered the cause c for the term j
module _ {task : Task} {j : ℕ} {theta target cs cs' w w' : List Float} {c : Cause} (call : WhyCall task j theta target cs cs' w w' (Ok c)) where
  told : (call.sizes ≡ Ok tt) × (c ≡ cause_of task theta target j)
  told = because_done call.sizes c _ call.answer

  asked : T (lt +zero task.setup.threshold) × (j < task.cols)
  asked = why_asked task j _ _ _ _ (sym call.judged ∙ told.0)

  -- it is true of the fit
  pub calls_true : Truly (problem_of task theta target) task.setup.max_iter j c
  calls_true = subst (Truly _ _ j) (sym told.1) (why_true task (matrix_of task theta) (at target) asked.0 j asked.1)

  -- and no other cause is
  pub calls_only : (d : Cause) → Truly (problem_of task theta target) task.setup.max_iter j d → d ≡ c
  calls_only d t = why_only task (matrix_of task theta) (at target) asked.0 j asked.1 d t ∙ sym told.1
