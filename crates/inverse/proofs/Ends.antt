-- How the inverse ends, from how the factor ended. Assumes nothing.
use Rattle.std.specs.Prelude.{Err, Ok, ◌≡◌, List, ℕ, Float}
use Rattle.steps.specs.Loops.{going}
use Rattle.refusal.specs.Answers.{told}
use Rattle.refusal.specs.Answers.{Solved}
use Rattle.cholesky.specs.Cholesky.{chol_factor}
use Rattle.inverse.specs.Inverse.{inverse, invert_end, invert}

module _ (n : ℕ) (a o : List Float) where
  pub invert_stops : (r : Solved) (col : ℕ) (l : List Float) → told r l ≡ chol_factor n a → r ≡ Err col → told r o ≡ invert n a o
  unfolding invert invert_end
  invert_stops r col l t e = rw (e, ← rw e at t)

  pub invert_goes : (r : Solved) (l x : List Float) → told r l ≡ chol_factor n a → r ≡ Ok tt → x ≡ inverse n l → going x ≡ invert n a o
  unfolding invert invert_end
  invert_goes r l x t e i = rw (i, ← rw e at t)
