-- jtj and jtr, entry by entry, by document 01's sentences. A matrix that is only read is a way to find its entries. Assumes nothing.
use Rattle.std.specs.Prelude.{ℕ, cond, List, eqb, Float}
use Rattle.std.specs.Float.Ieee.{lt}
use Rattle.steps.specs.Num.{plus, times, lit, +zero, Entry}
use Rattle.steps.specs.Sums.{sum}
use Rattle.steps.specs.Table.{tab, table}
use Rattle.float64.specs.Root.{abs_of}

-- the products of columns p and q are summed over rows; it is the same sum at (p,q) and (q,p), by the law `gram_both`
unfoldable pub gram : Entry → ℕ → ℕ → ℕ → Float
gram e rows p q = sum +zero 0 rows (λ i. times (e i p) (e i q))

-- the products of column p and the target are summed over rows
unfoldable pub moment : Entry → (ℕ → Float) → ℕ → ℕ → Float
moment e t rows p = sum +zero 0 rows (λ i. times (e i p) (t i))

-- lambda is added once to a finished diagonal number
unfoldable pub ridge : Float → Float → Float
ridge lambda d = plus d lambda

-- where damping in proportion begins
abbrev 2^-52 : Float
2^-52 = lit 0x3cb0000000000000

-- in proportion: lambda alone where the diagonal's magnitude is below 2^-52, else (NaN too) lambda times the diagonal
unfoldable pub marquardt : Float → Float → Float
marquardt lambda d = plus d (cond (lt (abs_of d) 2^-52) lambda (times lambda d))

-- the pair sums g, those on the diagonal damped (by `ridge` or `marquardt`)
unfoldable pub damped : (Float → Float) → Entry → Entry
damped damp g p q = cond (eqb p q) (damp (g p q)) (g p q)

-- the square matrix of n columns from the pair sums g, damped
unfoldable pub jtj_matrix : (Float → Float) → ℕ → Entry → List Float
jtj_matrix damp n g = table n n (damped damp g)

-- the n columns of the target products
unfoldable pub jtr_column : ℕ → (ℕ → Float) → List Float
jtr_column n m = tab n m
