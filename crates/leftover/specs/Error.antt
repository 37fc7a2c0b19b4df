-- The leftover error of a fit, by order 7's sentence. A matrix that is only read is a way to find its entries. Assumes nothing.
use Rattle.std.specs.Prelude.{◌≡◌, ℕ, ◌+◌, ◌<◌, List, get_or, Float}
use Rattle.std.specs.Int.Count.{ones}
use Rattle.steps.specs.Num.{less, times, +zero, at, Entry}
use Rattle.steps.specs.Sums.{sum}
use Rattle.support.specs.Word.{term}
use Rattle.places.specs.Columns.{columns}

-- the products of a row's k numbers and their coefficients, rising, from +0.0
unfoldable pub products : ℕ → (ℕ → Float) → (ℕ → Float) → Float
products k row cs = sum +zero 0 k (λ p. times (row p) (cs p))

-- numbers that are the products of the h rows from row i on
pub record RowSums (k : ℕ) (e : Entry) (cs : ℕ → Float) (i h : ℕ) (s : List Float) : Type 0 where
  pub each : (m : ℕ) → m < h → at s m ≡ products k (e (i + m)) cs

-- the target less that sum, in row i
unfoldable pub leftover : ℕ → Entry → (ℕ → Float) → (ℕ → Float) → ℕ → Float
leftover k e t cs i = less (t i) (products k (e i) cs)

-- squared
abbrev pub square : Float → Float
square x = times x x

-- summed over rows from +0.0
unfoldable pub squares : ℕ → ℕ → Entry → (ℕ → Float) → (ℕ → Float) → Float
squares rows k e t cs = sum +zero 0 rows (λ i. square (leftover k e t cs i))

-- the squared error: over the kept terms, those of the word w among n columns, each with its own column and coefficient
unfoldable pub squared_error : ℕ → ℕ → Entry → (ℕ → Float) → ℕ → List Float → Float
squared_error rows n e t w cs = squares rows (ones w) (columns n w e) t (λ p. at cs (term n w p))

-- the coefficients of the terms that a table lists
unfoldable pub listed_coeffs : List ℕ → List Float → ℕ → Float
listed_coeffs table cs p = at cs (get_or table p 0)
