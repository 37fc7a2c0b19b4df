-- Theta by rows and by columns give the same fit: one law over the way in which an entry is found.
use Rattle.std.specs.Prelude.{◌≡◌, List, ℕ, length, Float, Result}
use Rattle.std.proofs.Common.{sym, ap, ◌∙◌}
use Rattle.steps.specs.Num.{at, Entry}
use Rattle.places.specs.declared.Layout.{Layout}
use Rattle.places.specs.Stored.{stored_found, length_laid_out}
use Rattle.rule.specs.declared.Task.{Task}
use Rattle.rule.specs.declared.Report.{Report}
use Rattle.refusal.specs.declared.Refusal.{Refusal}
use Rattle.rule.specs.Tasks.{laid}
use Rattle.rule.specs.Fits.{problem, fit_by, matrix_of, fit_of}
use Rattle.rule.specs.Sizes.{limits, lengths, fit_sizes}
use Rattle.rule.specs.Calls.{FitCall}
use Rattle.rule.specs.Layouts.{theta_of}
use Rattle.rule.proofs.SameFit.{fit_entries}

-- however a matrix is stored, its fit is the fit of its entries
pub fit_stored : (task : Task) (e : Entry) (target : List Float) → fit_of task (theta_of task e) target ≡ fit_by task e (at target)
unfolding matrix_of
fit_stored task e target = fit_entries task _ e (at target) (λ i j a b. stored_found task.layout task.rows task.cols e i j a b)

-- so for every matrix any two layouts give the same fit
pub layouts_alike : (task : Task) (l m : Layout) (e : Entry) (target : List Float)
    → fit_of (laid l task) (theta_of (laid l task) e) target ≡ fit_of (laid m task) (theta_of (laid m task) e) target
unfolding fit_by problem
layouts_alike task l m e target = fit_stored (laid l task) e target ∙ sym (fit_stored (laid m task) e target)

-- nor do the refusals look at more than theta's length
sizes_alike : (task : Task) (l m : Layout) (e : Entry) (target coeffs space : ℕ)
    → fit_sizes (laid l task) (length (theta_of (laid l task) e)) target coeffs space ≡ fit_sizes (laid m task) (length (theta_of (laid m task) e)) target coeffs space
unfolding fit_sizes limits lengths
sizes_alike task l m e target coeffs space =
    ap (λ (long : ℕ). fit_sizes (laid l task) long target coeffs space) (length_laid_out l task.rows task.cols e ∙ sym (length_laid_out m task.rows task.cols e))

-- two calls for one matrix that differ in the layout alone answer alike, report or refusal, and leave the same coefficients and the same workspace
pub calls_alike : (task : Task) (l m : Layout) (e : Entry) (target cs w cs' w' cs'' w'' : List Float) (r s : Result Report Refusal)
    → FitCall (laid l task) (theta_of (laid l task) e) target cs cs' w w' r → FitCall (laid m task) (theta_of (laid m task) e) target cs cs'' w w'' s
    → (r ≡ s) × (cs' ≡ cs'') × (w' ≡ w'')
calls_alike task l m e target cs w cs' w' cs'' w'' r s p q =
    let sizes = sizes_alike task l m e (length target) (length cs) (length w) in
    let fits = layouts_alike task l m e target in
    (cc, cc, cc)
