-- What is promised of the squared error in a report, for all three fits and every stop.
use Rattle.std.specs.Prelude.{◌≡◌, refl, ℕ, T, Float}
use Rattle.std.proofs.Common.{ap, ◌∙◌}
use Rattle.std.specs.Float.{binary64}
use Rattle.std.specs.Float.Ieee.{fits}
use Rattle.steps.specs.Num.{less, +zero, Entry}
use Rattle.steps.specs.Sums.{sum}
use Rattle.leftover.specs.Error.{square, squares, squared_error}
use Rattle.leftover.proofs.Laws.{without_rows, none_kept}
use Rattle.rule.specs.Rule.{Problem, reported, Fit, fit}
use Rattle.rule.specs.Fits.{problem, problem_by, fit_by}
use Rattle.rule.specs.Rounded.{Rounded, in_format, sum_made}
use Rattle.rule.specs.declared.Task.{Task}
use Rattle.rule.proofs.Course.{of_report}

-- however a fit stopped, its error is that of the kept word and the final coefficients
pub error_rule : (P : Problem) (r : ℕ) → (fit P r).error ≡ P.error (fit P r).kept (fit P r).coeffs
unfolding reported
error_rule P r = of_report P (λ f. f.error ≡ P.error f.kept f.coeffs) (λ t cs ws. refl) r

-- of any task, matrix and target
module _ (task : Task) (e : Entry) (t : ℕ → Float) where
  abbrev f : Fit
  f = fit_by task e t

  -- in every report: over the kept word's terms, at the final coefficients
  pub error_is : f.error ≡ squared_error task.rows task.cols e t f.kept f.coeffs
  unfolding fit_by problem
  error_is = error_rule (problem_by task e t) task.setup.max_iter

  -- with no rows +0.0
  pub error_no_rows : task.rows ≡ 0 → f.error ≡ +zero
  error_no_rows z = error_is ∙ ap (λ (rows : ℕ). squared_error rows task.cols e t f.kept f.coeffs) z ∙ without_rows task.cols e t f.kept f.coeffs

  -- with nothing kept the target's squares: of each number less the sum of no products
  pub error_none_kept : f.kept ≡ 0 → f.error ≡ sum +zero 0 task.rows (λ i. square (less (t i) +zero))
  error_none_kept z = error_is ∙ ap (λ (w : ℕ). squared_error task.rows task.cols e t w f.coeffs) z ∙ none_kept task.rows task.cols e t f.coeffs

  -- it is the result of an operation, or +0.0
  error_made : {Q : Float → Type 0} → Rounded Q → Q f.error
  unfolding squared_error squares
  error_made made = rw error_is (sum_made made +zero 0 task.rows _ made.nought)

  -- so a binary64, whatever theta, target, threshold and lambda hold
  pub error_fits : T (fits binary64 f.error)
  error_fits = error_made in_format
