-- From the fit that watched the term to its cause, and from the cause to the call. Assumes nothing.
use Rattle.std.specs.Prelude.{Ok, Option}
use mathlib.Core.Path.{◌≡◌, refl, ap}
use mathlib.Core.List.{List}
use Prim.Native.Nat.{ℕ}
use lib.ListN.{length}
use lib.Ieee.{Float}
use Rattle.steps.specs.Space.{cleared}
use Rattle.refusal.specs.Answers.{Answer}
use Rattle.rule.specs.declared.Task.{Task}
use Rattle.rule.specs.declared.Stop.{Stop}
use Rattle.rule.specs.declared.Look.{Look}
use Rattle.rule.specs.Fits.{keeps, problem, fit_by, problem_of, fit_of}
use Rattle.rule.specs.Sizes.{task_need}
use Rattle.strlsq.specs.Ends.{Ends, Saw}
use Rattle.why.specs.declared.Cause.{Cause}
use Rattle.why.specs.Cause.{caused, cause, cause_of}
use Rattle.why.specs.Sizes.{why_sizes}
use Rattle.why.specs.Calls.{WhyCall}

module _ (task : Task) (theta target : List Float) (j : ℕ) where
  -- what the fit saw of the term, and how it ended, make the cause
  pub cause_found : {stop : Stop} {refits : ℕ} {drop : Option Look} {last : Float} {cs : List Float} → Ends (fit_of task theta target) stop refits cs
      → Saw (problem_of task theta target) task.setup.max_iter j drop last
      → caused (keeps task.setup 0) drop stop refits last ≡ cause_of task theta target j
  unfolding cause fit_by problem keeps
  cause_found f s = rw (s.drops, s.value, f.stop, f.refits) refl

  -- where nothing is refused
  pub why_accepted : (a : Answer) (cs cs' ws ws' : List Float) (c : Cause) → a ≡ why_sizes task j (length theta) (length target) (length cs) (length ws) → a ≡ Ok tt
      → c ≡ cause_of task theta target j → cs' ≡ (fit_of task theta target).coeffs → ws' ≡ cleared (task_need task) ws → WhyCall task j theta target cs cs' ws ws' (Ok c)
  why_accepted a cs cs' ws ws' c e t f g q = record { sizes = a; judged = e; answer = rw t (ap Ok f); coeffs = rw t g; space = rw t q }
