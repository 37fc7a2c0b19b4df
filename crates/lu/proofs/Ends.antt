-- How LU ends, from how its factors ended. Assumes nothing.
use Rattle.std.specs.Prelude.{Err, Ok, ◌≡◌, List, ℕ, Float}
use Rattle.steps.specs.Loops.{going}
use Rattle.refusal.specs.Answers.{told}
use Rattle.refusal.specs.Answers.{Solved}
use Rattle.lu.specs.Lu.{lu_factor, lu_forward, lu_back, lu_end, lu}

module _ (n : ℕ) (a b : List Float) where
  pub lu_stops : (r : Solved) (col : ℕ) (a' b' : List Float) → told r (a', b') ≡ lu_factor n a b → r ≡ Err col → told r (a', b') ≡ lu n a b
  unfolding lu lu_end
  lu_stops r col a' b' t e = rw (e, ← rw e at t)

  pub lu_goes : (r : Solved) (a' b' x y : List Float) → told r (a', b') ≡ lu_factor n a b → r ≡ Ok tt → x ≡ lu_forward n a' b' → y ≡ lu_back n a' x → going (a', y) ≡ lu n a b
  unfolding lu lu_end
  lu_goes r a' b' x y t e f g = rw (g, f, ← rw e at t)
