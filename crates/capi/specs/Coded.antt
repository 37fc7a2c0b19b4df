-- The question why, by its code, and its answer as numbers. Assumes nothing.
use Rattle.std.specs.Prelude.{Err, None, Ok, Some, ◌≡◌, List, [], ◌∷◌, ℕ, Float, Option, Result}
use Rattle.refusal.specs.declared.Refusal.TheVariants.{Malformed}
use Rattle.rule.specs.Tasks.{task_of, laid}
use Rattle.places.specs.declared.Layout.{Layout}
use Rattle.rule.specs.declared.Solver.{Solver}
use Rattle.rule.specs.declared.Setup.{Setup}
use Rattle.why.specs.Codes.{cause_code, cause_refit, cause_value}
use Rattle.why.specs.Calls.{WhyCall}
use Rattle.why.specs.declared.Cause.{Cause}
use Rattle.refusal.specs.declared.Refusal.{Refusal}

-- an unknown code is refused as malformed, and nothing is written
pub record Unasked (cs cs' w w' : List Float) (r : Result Cause Refusal) : Type 0 where
  pub answer : r ≡ Err Malformed
  pub coeffs : cs' ≡ cs
  pub space : w' ≡ w

-- the call, by what its code stands for: a solver, and the way in which theta is stored
abbrev pub WhyCoded : Option (Layout × Solver) → ℕ → ℕ → Setup → ℕ → List Float → List Float → List Float → List Float → List Float → List Float → Result Cause Refusal → Type 0
WhyCoded (Some (layout, solver)) rows n setup j theta target cs cs' w w' r = WhyCall (laid layout (task_of solver rows n setup)) j theta target cs cs' w w' r
WhyCoded None rows n setup j theta target cs cs' w w' r = Unasked cs cs' w w' r

-- the cause's code and refit number; a refusal leaves what stood there
abbrev pub cause_numbers : Result Cause Refusal → List ℕ → List ℕ
cause_numbers (Ok c) old = cause_code c ∷ cause_refit c ∷ []
cause_numbers (Err w) old = old

-- its coefficient
abbrev pub cause_values : Result Cause Refusal → List Float → List Float
cause_values (Ok c) old = cause_value c ∷ []
cause_values (Err w) old = old

-- the call C, and its cause
pub record Explained (C : Result Cause Refusal → Type 0) (old new : List ℕ) (was is : List Float) (answer : Result Cause Refusal) : Type 0 where
  pub why : C answer
  pub cause : new ≡ cause_numbers answer old
  pub value : is ≡ cause_values answer was
