-- LU refuses, if at all, at one of its columns. Assumes nothing.
use Rattle.std.specs.Prelude.{ℕ, List, Float}
use Rattle.std.specs.Float.Ieee.{lt}
use Rattle.steps.specs.Num.{1e-15, cell}
use Rattle.steps.specs.Loops.{Way, going, stopped, StopsBelow, way_below}
use Rattle.steps.specs.Cond.{either}
use Rattle.float64.specs.Root.{abs_of}
use Rattle.lu.specs.Lu.{pivot_row, lu_pivoted, lu_column, lu_factor, lu_end, lu}

pub lu_refuses : (n : ℕ) (a b : List Float) → StopsBelow n (lu n a b)
unfolding lu lu_factor lu_column lu_pivoted lu_end
lu_refuses n a b = go (lu_factor n a b) (way_below (lu_column n) n (λ k s h. either (StopsBelow n) (lt (abs_of (cell n s.0 (pivot_row n s.0 k) k)) 1e-15) _ _ (λ t. h) (λ t. tt)) 0 (a, b))
  where
    go : (f : Way (List Float × List Float)) → StopsBelow n f → StopsBelow n (lu_end n f)
    go (going s) p = tt
    go (stopped c s) p = p
