-- The contract of `why` determines the answer, every coefficient and every number of the workspace. Assumes nothing.
use Rattle.std.specs.Prelude.{◌≡◌, List, ℕ, Float, Result}
use Rattle.rule.specs.declared.Task.{Task}
use Rattle.why.specs.Codes.{cause_code, cause_refit, cause_value, caused_number}
use Rattle.why.specs.Calls.{WhyCall}
use Rattle.why.specs.declared.Cause.{Cause}
use Rattle.refusal.specs.declared.Refusal.{Refusal}

pub why_unique : (task : Task) (j : ℕ) (theta target cs w cs' w' cs'' w'' : List Float) (r s : Result Cause Refusal)
    → WhyCall task j theta target cs cs' w w' r → WhyCall task j theta target cs cs'' w w'' s → (r ≡ s) × (cs' ≡ cs'') × (w' ≡ w'')
why_unique task j theta target cs w cs' w' cs'' w'' r s p q = (cc, cc, cc)

pub cause_code_unique : (c : Cause) (r s : ℕ) → r ≡ cause_code c → s ≡ cause_code c → r ≡ s
cause_code_unique c r s p q = cc

pub cause_refit_unique : (c : Cause) (r s : ℕ) → r ≡ cause_refit c → s ≡ cause_refit c → r ≡ s
cause_refit_unique c r s p q = cc

pub cause_value_unique : (c : Cause) (r s : Float) → r ≡ cause_value c → s ≡ cause_value c → r ≡ s
cause_value_unique c r s p q = cc

pub caused_number_unique : (c : Result Cause Refusal) (r s : ℕ) → r ≡ caused_number c → s ≡ caused_number c → r ≡ s
caused_number_unique c r s p q = cc
