-- The columns of theta that a support names, and a table of their term numbers. Assumes nothing.
use Rattle.std.specs.Prelude.{◌≡◌, List, ℕ, ◌*◌, ◌^◌, ◌≤◌, ◌<◌, length, get_or, Float}
use Rattle.std.specs.Int.Count.{ones}
use Rattle.steps.specs.Num.{Entry}
use Rattle.support.specs.Word.{term}

-- theta's sizes are within document 01's limits, and the terms of the support w are columns of theta
pub record Within (theta : List Float) (rows n w : ℕ) : Type 0 where
  pub few_columns : n ≤ 64
  pub few_rows : rows ≤ 4096
  pub matrix : length theta ≡ rows * n
  pub terms : w < 2 ^ n

-- the columns of a refit: at a reduced place stands the column of theta of that place's term number
unfoldable pub columns : ℕ → ℕ → Entry → Entry
columns n w e i p = e i (term n w p)

-- a table lists the term number of each reduced place of w
pub record Lists (n w : ℕ) (table : List ℕ) : Type 0 where
  pub each : (p : ℕ) → p < ones w → get_or table p 0 ≡ term n w p

-- a table has k numbers, each one of n columns; k is at most n, and n at most 64
pub record Names (n k : ℕ) (table : List ℕ) : Type 0 where
  pub few_columns : n ≤ 64
  pub few : k ≤ n
  pub long : k ≤ length table
  pub each : (p : ℕ) → p < k → get_or table p 0 < n

-- they are columns of a theta of this many rows
pub record Listed (rows n k : ℕ) (table : List ℕ) (theta : List Float) : Type 0 where
  pub names : Names n k table
  pub matrix : length theta ≡ rows * n

-- the columns that a table lists
unfoldable pub listed : List ℕ → Entry → Entry
listed table e i p = e i (get_or table p 0)
