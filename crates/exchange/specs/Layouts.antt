-- Two inputs of one task and one matrix, each stored in its own way, have the same fit. Assumes nothing.
use Rattle.std.specs.Prelude.{◌≡◌, ℕ, ◌<◌, Float}
use Rattle.std.proofs.Math.Path.{sym, ap}
use Rattle.std.proofs.Common.{◌∙◌}
use mathlib.Core.List.{List}
use Rattle.steps.specs.Num.{at}
use Rattle.steps.specs.Table.{tab_cong}
use Rattle.places.specs.declared.Layout.{Layout}
use Rattle.reader.specs.Numbers.{target}
use Rattle.rule.specs.declared.Task.{Task}
use Rattle.rule.specs.Rule.{Fit}
use Rattle.rule.specs.Tasks.{laid}
use Rattle.rule.specs.Fits.{problem, fit_by, fit_of}
use Rattle.rule.proofs.SameFit.{fit_entries}
use Rattle.rule.proofs.Layouts.{fit_stored}
use Rattle.exchange.specs.Exchange.{matrix_asked, theta_asked, target_asked}

-- the fit of an input's numbers
abbrev pub fit_read : List ℕ → Task → Fit
fit_read s task = fit_of task (theta_asked s task) (target_asked s task)

-- it is the fit of its matrix and target
read_entries : (s : List ℕ) (task : Task) → fit_read s task ≡ fit_by task (matrix_asked s task) (at (target_asked s task))
unfolding theta_asked
read_entries s task = fit_stored task (matrix_asked s task) (target_asked s task)

-- two inputs that say the same features and the same targets, row by row
pub record SameNumbers (s t : List ℕ) (task task' : Task) : Type 0 where
  pub features : (r j : ℕ) → r < task.rows → j < task.cols → matrix_asked s task r j ≡ matrix_asked t task' r j
  pub targets : (r : ℕ) → r < task.rows → target s task.layout task.rows task.cols r ≡ target t task'.layout task'.rows task'.cols r

-- theta of the one is stored in one way, that of the other in another
module _ (s t : List ℕ) (task : Task) (l m : Layout) (same : SameNumbers s t (laid l task) (laid m task)) where
  pub targets_alike : target_asked s (laid l task) ≡ target_asked t (laid m task)
  unfolding target_asked
  targets_alike = tab_cong task.rows _ _ same.targets

  -- so the way in which theta is stored changes no fit
  pub inputs_alike : fit_read s (laid l task) ≡ fit_read t (laid m task)
  unfolding fit_by problem
  inputs_alike =
      read_entries s (laid l task)
      ∙ fit_entries (laid l task) (matrix_asked s (laid l task)) (matrix_asked t (laid m task)) (at (target_asked s (laid l task))) same.features
      ∙ ap (λ (x : List Float). fit_by (laid m task) (matrix_asked t (laid m task)) (at x)) targets_alike
      ∙ sym (read_entries t (laid m task))
