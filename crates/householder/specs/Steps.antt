-- What the inner steps ask and promise: by index, so that the order of rows and columns is free. Assumes nothing.
use Rattle.std.specs.Prelude.{◌≡◌, List, ℕ, ◌*◌, ◌≤◌, ◌<◌, length, Float}
use Rattle.steps.specs.Num.{at, cell}
use Rattle.transpose.specs.Led.{led, along}

-- a matrix of m by n, and one of its columns
pub record Shape (m n j : ℕ) (l : List Float) : Type 0 where
  pub size : length l ≡ m * n
  pub rows : m ≤ 4160
  pub cols : n ≤ 64
  pub tall : j < m
  pub wide : j < n

-- a matrix of m by n that is no wider than tall
pub record Whole (m n : ℕ) (l : List Float) : Type 0 where
  pub size : length l ≡ m * n
  pub rows : m ≤ 4160
  pub cols : n ≤ 64
  pub tall : n ≤ m

-- w has the sums of columns j to n of l, over the rows from j to below i
pub record Sums (i n j : ℕ) (x : Float) (l w : List Float) : Type 0 where
  pub each : (c : ℕ) → j ≤ c → c < n → at w c ≡ along j i (led x (cell n l) j) (λ k. cell n l k c)
