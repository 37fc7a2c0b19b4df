-- From the rounds to the report. Assumes nothing.
use Rattle.std.specs.Prelude.{Option}
use mathlib.Core.Path.{◌≡◌, sym, ap, ap₂, ◌∙◌}
use mathlib.Core.Bool.{cond}
use mathlib.Core.List.{List}
use Prim.Native.Nat.{ℕ}
use lib.ListN.{length}
use lib.Ieee.{Float}
use Rattle.steps.specs.Num.{+zero, at}
use Rattle.steps.specs.Table.{tab}
use Rattle.support.specs.Word.{word}
use Rattle.support.specs.declared.Support.{Support}
use Rattle.rule.specs.declared.Task.{Task}
use Rattle.rule.specs.declared.Stop.{Stop}
use Rattle.rule.specs.declared.Look.{Look}
use Rattle.leftover.specs.Error.{squared_error}
use Rattle.rule.specs.Rule.{reported, pruned, support}
use Rattle.rule.specs.Fits.{keeps, clears, problem, fit_by, matrix_of, problem_of, fit_of}
use Rattle.rule.specs.Calls.{report_of}
use Rattle.rule.proofs.Endings.{kept_is}
use Rattle.rule.proofs.Errors.{error_is}
use Rattle.rounds.specs.Ran.{CameTo}
use Rattle.strlsq.specs.Ends.{Ends}

module _ (task : Task) (theta target : List Float) where
  -- the rounds and the last pass end the fit
  pub ends : {j : ℕ} {drop : Option Look} (stop : Stop) (refits : ℕ) (cs cs' : List Float) → length cs ≡ task.cols
      → CameTo (problem_of task theta target) task.setup.max_iter j stop refits drop cs
      → cs' ≡ tab (length cs) (λ j. cond (clears task.setup j (at cs j)) +zero (at cs j))
      → Ends (fit_of task theta target) stop refits cs'
  unfolding fit_by problem reported pruned
  ends stop refits cs cs' l r p =
      let last : cs' ≡ pruned (problem_of task theta target) cs = p ∙ ap (λ (m : ℕ). tab m (λ j. cond (clears task.setup j (at cs j)) +zero (at cs j))) l in
      record { stop = sym (ap (λ f. f.stop) r.ends); refits = r.counts ∙ sym (ap (λ f. f.refits) r.ends); coeffs = last ∙ sym (ap (λ f. f.coeffs) r.ends) }

  -- the kept word and the error of what it left make the report
  pub reports : (stop : Stop) (refits : ℕ) (kept : Support) (error : Float) (cs : List Float) → length cs ≡ task.cols
      → Ends (fit_of task theta target) stop refits cs
      → kept.0 ≡ word (λ j. keeps task.setup j (at cs j)) (length cs)
      → error ≡ squared_error task.rows task.cols (matrix_of task theta) (at target) kept.0 cs
      → record { stop = stop; refits = refits; kept = kept; error = error } ≡ report_of (fit_of task theta target)
  unfolding fit_by problem support
  reports stop refits kept error cs l f k q =
      let P = problem_of task theta target in
      let fit = fit_of task theta target in
      let word_of : kept.0 ≡ fit.kept
      = k ∙ ap (word _) l ∙ ap (λ (c : List Float). word (λ j. keeps task.setup j (at c j)) task.cols) f.coeffs ∙ sym (kept_is P task.setup.max_iter) in
      let error-of : error ≡ fit.error
      = q ∙ ap₂ (squared_error task.rows task.cols (matrix_of task theta) (at target)) word_of f.coeffs ∙ sym (error_is task (matrix_of task theta) (at target)) in
      rw (f.stop, f.refits) (ap₂ (λ (w : ℕ) (x : Float). record { stop = fit.stop; refits = fit.refits; kept = record { 0 = w }; error = x }) word_of error-of)
