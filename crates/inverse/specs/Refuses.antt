-- The inverse is refused, if at all, at one of the matrix's columns. Assumes nothing.
use Rattle.std.specs.Prelude.{ℕ, List, Float}
use Rattle.steps.specs.Loops.{Way, going, stopped, StopsBelow}
use Rattle.cholesky.specs.Cholesky.{chol_factor}
use Rattle.cholesky.specs.Refuses.{factor_refuses}
use Rattle.inverse.specs.Inverse.{invert_end, invert}

pub invert_refuses : (n : ℕ) (a o : List Float) → StopsBelow n (invert n a o)
unfolding invert invert_end
invert_refuses n a o = go (chol_factor n a) (factor_refuses n a)
  where
    go : (f : Way (List Float)) → StopsBelow n f → StopsBelow n (invert_end n o f)
    go (going l) p = tt
    go (stopped c l) p = p
