-- The contract of the fits determines the answer, every coefficient and every number of the workspace. Assumes nothing.
use Rattle.std.specs.Prelude.{◌≡◌, List, ℕ, Float, Option, Result}
use Rattle.rule.specs.Codes.{by_code, stop_code, stop_term, fitted_number}
use Rattle.rule.specs.Calls.{FitCall}
use Rattle.rule.specs.declared.Task.{Task}
use Rattle.rule.specs.declared.Stop.{Stop}
use Rattle.places.specs.declared.Layout.{Layout}
use Rattle.rule.specs.declared.Solver.{Solver}
use Rattle.rule.specs.declared.Report.{Report}
use Rattle.refusal.specs.declared.Refusal.{Refusal}

pub fit_unique : (task : Task) (theta target cs w cs' w' cs'' w'' : List Float) (r s : Result Report Refusal)
    → FitCall task theta target cs cs' w w' r → FitCall task theta target cs cs'' w w'' s → (r ≡ s) × (cs' ≡ cs'') × (w' ≡ w'')
fit_unique task theta target cs w cs' w' cs'' w'' r s p q = (cc, cc, cc)

pub by_code_unique : (code : ℕ) (r t : Option (Layout × Solver)) → r ≡ by_code code → t ≡ by_code code → r ≡ t
by_code_unique code r t p q = cc

pub stop_code_unique : (s : Stop) (r t : ℕ) → r ≡ stop_code s → t ≡ stop_code s → r ≡ t
stop_code_unique s r t p q = cc

pub stop_term_unique : (s : Stop) (r t : ℕ) → r ≡ stop_term s → t ≡ stop_term s → r ≡ t
stop_term_unique s r t p q = cc

pub fitted_number_unique : (f : Result Report Refusal) (r t : ℕ) → r ≡ fitted_number f → t ≡ fitted_number f → r ≡ t
fitted_number_unique f r t p q = cc
