-- The sums of all columns, kept in one list, and a support's block of them. Assumes nothing.
use Rattle.std.specs.Prelude.{ℕ, ◌+◌, ◌*◌, List, ◌++◌, Float}
use Rattle.steps.specs.Num.{at, Entry, cell}
use Rattle.steps.specs.Table.{tab, table}
use Rattle.support.specs.Word.{term}

-- how many numbers the kept sums of n columns are
abbrev pub kept_size : ℕ → ℕ
kept_size n = n * n + n

-- the kept sums: the pair sums g by rows, both halves, then the target products m
unfoldable pub kept_sums : ℕ → Entry → (ℕ → Float) → List Float
kept_sums n g m = table n n g ++ tab n m

-- a list that begins with kept sums: its pair sum of the terms p and q, and its target product of the term p
abbrev pub pair : ℕ → List Float → Entry
pair n s = cell n s

abbrev pub product : ℕ → List Float → ℕ → Float
product n s p = at s (n * n + p)

-- the block of the support w: at two reduced places stands the pair sum of the terms there
unfoldable pub block : ℕ → ℕ → Entry → Entry
block n w g p q = g (term n w p) (term n w q)

-- its right-hand side: at a reduced place stands the target product of the term there
unfoldable pub side : ℕ → ℕ → (ℕ → Float) → ℕ → Float
side n w m p = m (term n w p)
