-- What the sums rely on, how they are damped, and what each step leaves, by index, so that the order of rows and columns is free. Assumes nothing.
use Rattle.std.specs.Prelude.{◌≡◌, List, ℕ, ◌*◌, ◌≤◌, ◌<◌, Float}
use Rattle.steps.specs.Num.{at}
use Rattle.sums.specs.Products.{ridge, marquardt}
use Rattle.sums.specs.declared.inner.Damping.{Damping}
use Rattle.sums.specs.declared.inner.Damping.TheVariants.{Ridge, Proportion}

-- a matrix within document 01's limits: so many rows and n columns, in so many numbers
pub record Matrix (rows n matrix : ℕ) : Type 0 where
  pub few_columns : n ≤ 64
  pub few_rows : rows ≤ 4096
  pub cells : matrix ≡ rows * n

-- the first n numbers of s are those of g
pub record Filled (n : ℕ) (g : ℕ → Float) (s : List Float) : Type 0 where
  pub each : (q : ℕ) → q < n → at s q ≡ g q

-- what a damping makes of a finished diagonal number
abbrev pub damps : Damping → Float → Float
damps (Ridge lambda) = ridge lambda
damps (Proportion lambda) = marquardt lambda
