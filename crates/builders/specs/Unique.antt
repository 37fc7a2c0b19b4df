-- The contracts of `jtj` and `jtr` determine the answer and every number of the output. Assumes nothing.
use Rattle.std.specs.Prelude.{◌≡◌, List, ℕ, Float}
use Rattle.refusal.specs.Answers.{Answer}
use Rattle.builders.specs.Calls.{JtjCall, JtrCall}

-- at any damping
pub jtj_unique : (damp : Float → Float) (jac : List Float) (rows n : ℕ) (out out' out'' : List Float) (r s : Answer) →
    JtjCall damp jac rows n out out' r → JtjCall damp jac rows n out out'' s → (r ≡ s) × (out' ≡ out'')
jtj_unique damp jac rows n out out' out'' r s p q = (cc, cc)

pub jtr_unique : (jac t : List Float) (rows n : ℕ) (out out' out'' : List Float) (r s : Answer) →
    JtrCall jac t rows n out out' r → JtrCall jac t rows n out out'' s → (r ≡ s) × (out' ≡ out'')
jtr_unique jac t rows n out out' out'' r s p q = (cc, cc)
