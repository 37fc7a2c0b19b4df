-- Q-transpose, by document 01's sentences. Assumes nothing.
use Rattle.std.specs.Prelude.{◌≡◌, List, ℕ, ◌+◌, ◌*◌, ◌≤◌, length, set, Float}
use Rattle.steps.specs.Num.{less, times, one, at, cell}
use Rattle.steps.specs.Loops.{loop}
use Rattle.transpose.specs.Led.{led, along}

-- Q-transpose, column j: a leading 1 and the stored entries, skipped columns too; b loses (beta * w) * v(i)
unfoldable pub qt_column : ℕ → ℕ → List Float → Float → ℕ → List Float → List Float
qt_column m n a beta j b =
    let v = led one (cell n a) j in
    let w = along j m v (at b) in
    loop j m (λ i l. set l i (less (at l i) (times (times beta w) (v i)))) b

-- all columns in turn
unfoldable pub qt : ℕ → ℕ → List Float → List Float → List Float → List Float
qt m n a betas b = loop 0 n (λ j. qt_column m n a (at betas j) j) b

-- a matrix of m by n that is no wider than tall, and a right-hand side behind it
pub record Packed (m n : ℕ) (s : List Float) : Type 0 where
  pub size : length s ≡ m * n + m
  pub rows : m ≤ 4160
  pub cols : n ≤ 64
  pub tall : n ≤ m
