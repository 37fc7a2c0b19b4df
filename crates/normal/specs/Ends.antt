-- How the normal equations end, from how Cholesky and LU ended. Assumes nothing.
use Rattle.std.specs.Prelude.{◌≡◌, refl, true, false, ℕ, List, Ok, Err, is_err, Float}
use Rattle.std.proofs.Common.{ap, ◌∙◌}
use Rattle.steps.specs.Loops.{Way, going, stopped, final}
use Rattle.refusal.specs.Answers.{Solved, told}
use Rattle.cholesky.specs.Cholesky.{chol_factor, chol_end, cholesky}
use Rattle.lu.specs.Lu.{lu}
use Rattle.normal.specs.Normal.{right_side, or_lu, normal}

-- what the test for a refusal tells
pub was_done : (r : Solved) → is_err r ≡ false → r ≡ Ok tt
was_done (Ok done) e = refl
was_done (Err c) e = cc

pub was_refused : (r : Solved) → is_err r ≡ true → (c : ℕ) × (r ≡ Err c)
was_refused (Ok done) e = absurd (cc)
was_refused (Err c) e = (c, refl)

module _ (n : ℕ) (a b : List Float) where
  -- the normal equations where Cholesky is done
  pub normal_goes : (r : Solved) (a' b' : List Float) → told r (a', b') ≡ cholesky n a b → r ≡ Ok tt → going b' ≡ normal n a b
  unfolding normal or_lu
  normal_goes r a' b' t e = rw (← rw e at t)

  -- and where it is refused, which leaves b as it was
  untouched : (col : ℕ) (a' b' : List Float) (w : Way (List Float)) → stopped col (a', b') ≡ chol_end n b w → b' ≡ b
  unfolding chol_end
  untouched col a' b' (going l) t = cc
  untouched col a' b' (stopped c l) t = ap (λ (w : Way (List Float × List Float)). (final w).1) t

  right_side_told : (s : Solved) (x y : List Float) → told s y ≡ right_side (told s (x, y))
  right_side_told (Ok done) x y = refl
  right_side_told (Err c) x y = refl

  pub normal_by_lu : (r s : Solved) (col : ℕ) (a' b' a'' b'' : List Float) → told r (a', b') ≡ cholesky n a b → r ≡ Err col → told s (a'', b'') ≡ lu n a b' → told s b'' ≡ normal n a b
  unfolding normal or_lu cholesky
  normal_by_lu r s col a' b' a'' b'' t e u =
      let k = untouched col a' b' (chol_factor n a) (rw e at t) in
      rw (← rw e at t) (right_side_told s a'' b'' ∙ ap (λ (w : Way (List Float × List Float)). right_side w) (rw k at u))
