-- Theta by rows and by columns give the same cause: a cause looks only at the entries of the matrix. Assumes nothing.
use Rattle.std.specs.Prelude.{◌≡◌, List, length, Float, Result}
use Rattle.std.proofs.Math.Path.{refl, ap, ap₂}
use Rattle.std.proofs.Common.{sym, ◌∙◌}
use Prim.Native.Nat.{ℕ, zero, suc, ◌^◌, ◌<◌}
use Rattle.steps.specs.Num.{at, Entry}
use Rattle.refusal.specs.Answers.{Solution}
use Rattle.places.specs.declared.Layout.{Layout}
use Rattle.places.specs.Stored.{stored_found, length_laid_out}
use Rattle.rule.specs.declared.Task.{Task}
use Rattle.rule.specs.Tasks.{laid}
use Rattle.rule.specs.Rule.{Problem, State, going, done, support, rounds}
use Rattle.rule.specs.Dropped.{drops, or_else, dropped}
use Rattle.rule.specs.Fits.{problem, problem_by, matrix_of}
use Rattle.rule.specs.SameFit.{resolved}
use Rattle.rule.proofs.SameFit.{same_rounds, same_fit, whole_agrees, solve_agrees, error_agrees}
use Rattle.rule.specs.Sizes.{limits, lengths}
use Rattle.rule.specs.Layouts.{theta_of}
use Rattle.rule.proofs.Layouts.{layouts_alike}
use Rattle.why.specs.declared.Cause.{Cause}
use Rattle.refusal.specs.declared.Refusal.{Refusal}
use Rattle.why.specs.Cause.{cause, cause_of}
use Rattle.why.specs.Sizes.{asks, why_sizes}
use Rattle.why.specs.Calls.{WhyCall}

-- two problems of the same sizes and tests whose solves and errors agree
module _ (P : Problem) (a : Solution) (f : ℕ → Solution) (g : ℕ → List Float → Float) (whole : P.whole ≡ a) (solve : (w : ℕ) → w < 2 ^ P.cols → P.solve w ≡ f w)
    (errs : (w : ℕ) (cs : List Float) → w < 2 ^ P.cols → P.error w cs ≡ g w cs) where
  abbrev Q : Problem
  Q = resolved P a f g

  same_drops : (j : ℕ) (s : State) → drops P j s ≡ drops Q j s
  unfolding drops support
  same_drops j (going cs ws) = refl
  same_drops j (done t cs ws) = refl

  same_dropped : (j r : ℕ) → dropped P j r ≡ dropped Q j r
  unfolding dropped
  same_dropped j zero = refl
  same_dropped j (suc r) = ap₂ or_else (same_dropped j r) (same_drops j (rounds P r) ∙ ap (drops Q j) (same_rounds P a f g whole solve errs r))

  same_cause : (limit j : ℕ) → cause P limit j ≡ cause Q limit j
  unfolding cause
  same_cause limit j = rw (same_dropped j limit, same_fit P a f g whole solve errs limit, same_rounds P a f g whole solve errs limit)

-- a cause looks only at the entries of the rows and columns
pub cause_entries : (task : Task) (e f : Entry) (t : ℕ → Float) → ((i j : ℕ) → i < task.rows → j < task.cols → e i j ≡ f i j)
    → (limit j : ℕ) → cause (problem_by task e t) limit j ≡ cause (problem_by task f t) limit j
unfolding problem
cause_entries task e f t h = same_cause (problem_by task e t) _ _ _ (whole_agrees task e f t h) (solve_agrees task e f t h) (error_agrees task e f t h)

-- however a matrix is stored, the cause of a term is that by its entries
pub cause_stored : (task : Task) (e : Entry) (target : List Float) (j : ℕ)
    → cause_of task (theta_of task e) target j ≡ cause (problem_by task e (at target)) task.setup.max_iter j
unfolding matrix_of
cause_stored task e target = cause_entries task _ e (at target) (λ i j a b. stored_found task.layout task.rows task.cols e i j a b) task.setup.max_iter

-- so for every matrix any two layouts give the same cause of each term
pub causes_alike : (task : Task) (l m : Layout) (e : Entry) (target : List Float) (j : ℕ)
    → cause_of (laid l task) (theta_of (laid l task) e) target j ≡ cause_of (laid m task) (theta_of (laid m task) e) target j
unfolding problem
causes_alike task l m e target j = cause_stored (laid l task) e target j ∙ sym (cause_stored (laid m task) e target j)

-- nor do the refusals look at more than theta's length
sizes_alike : (task : Task) (j : ℕ) (l m : Layout) (e : Entry) (target coeffs space : ℕ)
    → why_sizes (laid l task) j (length (theta_of (laid l task) e)) target coeffs space ≡ why_sizes (laid m task) j (length (theta_of (laid m task) e)) target coeffs space
unfolding why_sizes asks limits lengths
sizes_alike task j l m e target coeffs space =
    ap (λ (long : ℕ). why_sizes (laid l task) j long target coeffs space) (length_laid_out l task.rows task.cols e ∙ sym (length_laid_out m task.rows task.cols e))

-- two calls for one matrix that differ in the layout alone answer alike, cause or refusal, and leave the same coefficients and the same workspace
pub why_calls_alike : (task : Task) (j : ℕ) (l m : Layout) (e : Entry) (target cs w cs' w' cs'' w'' : List Float) (r s : Result Cause Refusal)
    → WhyCall (laid l task) j (theta_of (laid l task) e) target cs cs' w w' r → WhyCall (laid m task) j (theta_of (laid m task) e) target cs cs'' w w'' s
    → (r ≡ s) × (cs' ≡ cs'') × (w' ≡ w'')
why_calls_alike task j l m e target cs w cs' w' cs'' w'' r s p q =
    let sizes = sizes_alike task j l m e (length target) (length cs) (length w) in
    let causes = causes_alike task l m e target j in
    let fits = layouts_alike task l m e target in
    (cc, cc, cc)
