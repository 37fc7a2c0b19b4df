-- Cholesky refuses, if at all, at one of its columns. Assumes nothing.
use Rattle.std.specs.Prelude.{ℕ, List, Float}
use Rattle.std.specs.Float.Ieee.{le}
use Rattle.steps.specs.Num.{times, 1e-14}
use Rattle.steps.specs.Loops.{Way, going, stopped, StopsBelow, way_below}
use Rattle.steps.specs.Cond.{either}
use Rattle.cholesky.specs.Cholesky.{scale, reduced, chol_column, chol_factor, chol_end, cholesky}

pub factor_refuses : (n : ℕ) (a : List Float) → StopsBelow n (chol_factor n a)
unfolding chol_factor chol_column
factor_refuses n a = way_below column n (λ j l h. either (StopsBelow n) (le (reduced n l j j) bound) _ _ (λ t. h) (λ t. tt)) 0 a
  where
    bound : Float
    bound = times 1e-14 (scale n a)

    column : ℕ → List Float → Way (List Float)
    column = chol_column n bound

pub chol_refuses : (n : ℕ) (a b : List Float) → StopsBelow n (cholesky n a b)
unfolding cholesky chol_end
chol_refuses n a b = go (chol_factor n a) (factor_refuses n a)
  where
    go : (f : Way (List Float)) → StopsBelow n f → StopsBelow n (chol_end n b f)
    go (going l) p = tt
    go (stopped c l) p = p
