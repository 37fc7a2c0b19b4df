-- A square matrix by its columns: what a step on all of them side by side leaves of each. Assumes nothing.
use Rattle.std.specs.Prelude.{◌≡◌, List, ℕ, ◌+◌, ◌*◌, ◌<◌, length, Float}
use Rattle.steps.specs.Num.{cell}
use Rattle.steps.specs.Table.{tab}
use Rattle.steps.specs.Wrote.{Wrote}

-- column j, from the top down
unfoldable pub down_column : ℕ → List Float → ℕ → List Float
down_column n x j = tab n (λ i. cell n x i j)

-- x is the n by n matrix of the columns f 0, f 1, ..
pub record ByColumns (n : ℕ) (f : ℕ → List Float) (x : List Float) : Type 0 where
  pub square : length x ≡ n * n
  pub each : (j : ℕ) → j < n → down_column n x j ≡ f j

-- x' is x with g 0, g 1, .. as its row i
abbrev pub WithRow : ℕ → ℕ → (ℕ → Float) → List Float → List Float → Type 0
WithRow n i g x x' = Wrote (λ j. i * n + j) 0 n g x x'
