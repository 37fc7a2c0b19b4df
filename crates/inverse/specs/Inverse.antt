-- The inverse of a positive definite matrix, a column at a time, by Cholesky's factor. Assumes nothing.
use Rattle.std.specs.Prelude.{ℕ, List, set, replicate, Float}
use Rattle.steps.specs.Num.{+zero, one, at}
use Rattle.steps.specs.Loops.{Way, going, stopped}
use Rattle.steps.specs.Table.{table}
use Rattle.cholesky.specs.Cholesky.{chol_factor, chol_forward, chol_back}

-- the unit column j: 1.0 at j, +0.0 elsewhere
unfoldable pub unit : ℕ → ℕ → List Float
unit n j = set (replicate n +zero) j one

-- column j of the inverse: the unit column j through forward and back substitution with the factor l
unfoldable pub inverse_column : ℕ → List Float → ℕ → List Float
inverse_column n l j = chol_back n l (chol_forward n l (unit n j))

-- the inverse: row i of column j is number i of that
unfoldable pub inverse : ℕ → List Float → List Float
inverse n l = table n n (λ i j. at (inverse_column n l j) i)

-- with what the factor came to: a refusal leaves the output o unchanged
unfoldable pub invert_end : ℕ → List Float → Way (List Float) → Way (List Float)
invert_end n o (going l) = going (inverse n l)
invert_end n o (stopped c l) = stopped c o

-- the output after the call, which was o
unfoldable pub invert : ℕ → List Float → List Float → Way (List Float)
invert n a o = invert_end n o (chol_factor n a)
