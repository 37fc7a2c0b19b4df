-- An input by rows and one by columns that say the same numbers have the same causes, and are answered alike. Assumes nothing.
use Rattle.std.specs.Prelude.{Ok, Some, ◌≡◌, refl, ℕ, zero, suc, Float}
use Rattle.std.proofs.Math.Path.{sym, ap}
use Rattle.std.proofs.Common.{ap₂, ◌∙◌}
use mathlib.Core.List.{List, ◌++◌}
use Rattle.steps.specs.Num.{at}
use Rattle.places.specs.declared.Layout.{Layout}
use Rattle.rule.specs.Fits.{problem, problem_by}
use Rattle.rule.specs.Tasks.{laid}
use Rattle.rule.specs.declared.Task.{Task}
use Rattle.reader.specs.Header.{head_of}
use Rattle.exchange.specs.Exchange.{matrix_asked, theta_asked, target_asked, answer_lines}
use Rattle.exchange.specs.Layouts.{SameNumbers, targets_alike}
use Rattle.why.specs.Cause.{cause}
use Rattle.why.proofs.Layouts.{cause_entries, cause_stored}
use Rattle.why.specs.declared.Cause.{Cause}
use Rattle.causes.specs.Lines.{cause_line, cause_lines}
use Rattle.causes.specs.Exchange.{why_checked, cause_asked, causes_of}
use Rattle.causes.specs.Cases.{causes_good}

-- the cause of a term of an input is that of its matrix and target
asked_entries : (s : List ℕ) (task : Task) (j : ℕ)
    → cause_asked s task j ≡ cause (problem_by task (matrix_asked s task) (at (target_asked s task))) task.setup.max_iter j
unfolding theta_asked
asked_entries s task j = cause_stored task (matrix_asked s task) (target_asked s task) j

-- equal causes have equal lines
lines_alike : (why why' : ℕ → Cause) → ((j : ℕ) → why j ≡ why' j) → (n : ℕ) → cause_lines why n ≡ cause_lines why' n
unfolding cause_lines
lines_alike why why' h zero = refl
lines_alike why why' h (suc n) = ap₂ ◌++◌ (lines_alike why why' h n) (ap cause_line (h n))

module _ (s t : List ℕ) (task : Task) (l m : Layout) (same : SameNumbers s t (laid l task) (laid m task)) where
  pub asked_alike : (j : ℕ) → cause_asked s (laid l task) j ≡ cause_asked t (laid m task) j
  unfolding problem
  asked_alike j =
      let limit = task.setup.max_iter in
      asked_entries s (laid l task) j
      ∙ cause_entries (laid l task) (matrix_asked s (laid l task)) (matrix_asked t (laid m task)) (at (target_asked s (laid l task))) same.features limit j
      ∙ ap (λ (x : List Float). cause (problem_by (laid m task) (matrix_asked t (laid m task)) (at x)) limit j) (targets_alike s t task l m same)
      ∙ sym (asked_entries t (laid m task) j)

  -- byte for byte, whichever way each stores theta
  pub causes_answered_alike : head_of s ≡ Some (laid l task) → head_of t ≡ Some (laid m task) → why_checked s (laid l task) ≡ Ok tt → why_checked t (laid m task) ≡ Ok tt → causes_of s ≡ causes_of t
  unfolding answer_lines
  causes_answered_alike e f ok fine =
      causes_good s (laid l task) (Ok tt) e ok ∙ lines_alike _ _ asked_alike task.cols ∙ sym (causes_good t (laid m task) (Ok tt) f fine)
