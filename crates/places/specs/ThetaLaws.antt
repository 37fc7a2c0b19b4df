-- The rows and columns of a theta are in its numbers. Assumes nothing.
use Rattle.std.specs.Prelude.{ℕ, ◌+◌, ◌*◌, ◌≤◌, ◌<◌, length}
use Rattle.std.proofs.Common.{mul_comm, mul-le-mul_right, arith}
use Rattle.std.proofs.Math.Arith.{digits_lt}
use Rattle.steps.specs.Table.{row_fits}
use Rattle.places.specs.declared.Theta.{Theta}

-- where it is stored by rows: an entry, and the h rows from row i on
pub entry_fits : (theta : Theta) (i j : ℕ) → i < theta.rows → j < theta.cols → i * theta.cols + j < length theta.numbers.now
entry_fits theta i j a b = rw theta.whole (digits_lt a b)

pub rows_fit : (theta : Theta) (i h : ℕ) → i + h ≤ theta.rows → i * theta.cols + h * theta.cols ≤ length theta.numbers.now
rows_fit theta i h few = omega (arith, theta.whole, mul-le-mul_right theta.cols few)

-- where it is stored by columns: h rows of column j from row i on
pub column_fits : (theta : Theta) (j i h : ℕ) → j < theta.cols → i + h ≤ theta.rows → j * theta.rows + i + h ≤ length theta.numbers.now
column_fits theta j i h within few = omega (arith, theta.whole, row_fits theta.cols theta.rows j within, mul_comm theta.cols theta.rows)
