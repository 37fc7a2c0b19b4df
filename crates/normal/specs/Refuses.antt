-- The normal equations refuse, if at all, at one of their columns: LU's. Assumes nothing.
use Rattle.std.specs.Prelude.{ℕ, List, Float}
use Rattle.steps.specs.Loops.{Way, going, stopped, StopsBelow}
use Rattle.cholesky.specs.Cholesky.{cholesky}
use Rattle.lu.specs.Lu.{lu}
use Rattle.lu.specs.Refuses.{lu_refuses}
use Rattle.normal.specs.Normal.{right_side, or_lu, normal}

pub normal_refuses : (n : ℕ) (a b : List Float) → StopsBelow n (normal n a b)
unfolding normal or_lu
normal_refuses n a b = go (cholesky n a b)
  where
    by_lu : (f : Way (List Float × List Float)) → StopsBelow n f → StopsBelow n (right_side f)
    by_lu (going s) p = tt
    by_lu (stopped c s) p = p

    go : (f : Way (List Float × List Float)) → StopsBelow n (or_lu n a b f)
    go (going s) = tt
    go (stopped c s) = by_lu (lu n a b) (lu_refuses n a b)
