-- How Cholesky ends, from how its factor ended. Assumes nothing.
use Rattle.std.specs.Prelude.{Err, Ok, ◌≡◌, List, ℕ, Float}
use Rattle.steps.specs.Loops.{going}
use Rattle.refusal.specs.Answers.{told}
use Rattle.refusal.specs.Answers.{Solved}
use Rattle.cholesky.specs.Cholesky.{chol_factor, chol_forward, chol_back, chol_end, cholesky}

module _ (n : ℕ) (a b : List Float) where
  pub cholesky_stops : (r : Solved) (col : ℕ) (a' : List Float) → told r a' ≡ chol_factor n a → r ≡ Err col → told r (a', b) ≡ cholesky n a b
  unfolding cholesky chol_end
  cholesky_stops r col a' t e = rw (e, ← rw e at t)

  pub cholesky_goes : (r : Solved) (a' x y : List Float) → told r a' ≡ chol_factor n a → r ≡ Ok tt → x ≡ chol_forward n a' b → y ≡ chol_back n a' x → going (a', y) ≡ cholesky n a b
  unfolding cholesky chol_end
  cholesky_goes r a' x y t e f g = rw (g, f, ← rw e at t)
