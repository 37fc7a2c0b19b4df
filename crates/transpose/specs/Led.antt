-- A column of QR and the sums along it, for the columns' steps and Q-transpose alike. Every sum here starts at -0.0. Assumes nothing.
use Rattle.std.specs.Prelude.{ℕ, cond, eqb, Float}
use Rattle.steps.specs.Num.{times, -zero, Entry}
use Rattle.steps.specs.Sums.{sum}

-- column j from the diagonal down, its leading entry replaced by x
unfoldable pub led : Float → Entry → ℕ → ℕ → Float
led x e j i = cond (eqb i j) x (e i j)

-- the products of v and f from row j to the last of m, summed from -0.0 by rising row
unfoldable pub along : ℕ → ℕ → (ℕ → Float) → (ℕ → Float) → Float
along j m v f = sum -zero j m (λ i. times (v i) (f i))
