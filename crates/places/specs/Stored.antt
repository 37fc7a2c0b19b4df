-- How theta is stored, and the matrix that it holds. Assumes nothing.
use Rattle.std.specs.Prelude.{◌≡◌, List, ℕ, ◌*◌, ◌<◌, length, Float}
use Rattle.std.proofs.Common.{◌∙◌, mul_comm}
use Rattle.std.specs.Float.{nan}
use Rattle.steps.specs.Num.{Entry, cell}
use Rattle.steps.specs.Table.{table, length_table, at_table}
use Rattle.places.specs.declared.Layout.{Layout}
use Rattle.places.specs.declared.Layout.TheVariants.{ByRows, ByColumns}

-- the matrix of so many rows and n columns that theta holds: row i, column j is number i·n + j by rows, number j·rows + i by columns
unfoldable pub stored : Layout → ℕ → ℕ → List Float → Entry
stored ByRows rows n theta i j = cell n theta i j
stored ByColumns rows n theta i j = cell rows theta j i

-- the numbers of the matrix e in the order in which they are stored
unfoldable pub laid_out : Layout → ℕ → ℕ → Entry → List Float
laid_out ByRows rows n e = table rows n e
laid_out ByColumns rows n e = table n rows (λ j i. e i j)

-- whichever way a matrix is stored, each of its entries is found again
pub stored_found : (l : Layout) (rows n : ℕ) (e : Entry) (i j : ℕ) → i < rows → j < n → stored l rows n (laid_out l rows n e) i j ≡ e i j
unfolding stored laid_out
stored_found ByRows rows n e i j a b = at_table rows n e i j nan a b
stored_found ByColumns rows n e i j a b = at_table n rows (λ j i. e i j) j i nan b a

-- and it is as many numbers
pub length_laid_out : (l : Layout) (rows n : ℕ) (e : Entry) → length (laid_out l rows n e) ≡ rows * n
unfolding laid_out
length_laid_out ByRows rows n e = length_table rows n e
length_laid_out ByColumns rows n e = length_table n rows (λ j i. e i j) ∙ mul_comm n rows
