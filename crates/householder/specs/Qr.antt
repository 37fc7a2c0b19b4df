-- Householder QR, by document 01's sentences. Every sum here starts at -0.0. Assumes nothing.
use Rattle.std.specs.Prelude.{ℕ, cond, ◌&&◌, List, ltb, leb, eqb, Float}
use Rattle.std.specs.Float.Ieee.{lt, le}
use Rattle.steps.specs.Num.{plus, less, times, over, +zero, one, -one, two, 1e-15, 1e-30, Entry, cell}
use Rattle.steps.specs.Loops.{loop}
use Rattle.steps.specs.Table.{tab, table}
use Rattle.float64.specs.Root.{root_of}
use Rattle.transpose.specs.Led.{led, along}

-- +1 if the leading entry is at least 0.0 (so -0.0 gives +1), else -1 (NaN too)
unfoldable pub sign : Float → Float
sign x = cond (le +zero x) one -one

-- beta * w of column c, w summed first
unfoldable pub share : ℕ → ℕ → (ℕ → Float) → Float → Entry → ℕ → Float
share m j v beta e c = times beta (along j m v (λ k. e k c))

-- columns from j on, j included, lose (beta * w) * v(i) from row j down
unfoldable pub lose : ℕ → (ℕ → Float) → (ℕ → Float) → Entry → Entry
lose j v t e i c = cond (leb j i && leb j c) (less (e i c) (times (t c) (v i))) (e i c)

-- then v(i) / v0 is stored below the diagonal of column j
unfoldable pub store : ℕ → (ℕ → Float) → Float → Entry → Entry
store j v x e i c = cond (ltb j i && eqb c j) (over (v i) x) (e i c)

-- the matrix after both, where v0 = x and column c loses by t(c)
unfoldable pub reflect : ℕ → ℕ → ℕ → Float → (ℕ → Float) → List Float → List Float
reflect m n j x t l = let v = led x (cell n l) j in table m n (store j v x (lose j v t (cell n l)))

-- skip if the sum of squares of v is below 1e-30; else beta = 2 / that sum, and (beta * v0) * v0 is stored
unfoldable pub pushed : ℕ → ℕ → ℕ → List Float → Float → Float → List Float × Float
pushed m n j l x s =
    cond (lt s 1e-30) (l, +zero)
    (let beta = over two s in (reflect m n j x (share m j (led x (cell n l) j) beta (cell n l)) l, times (times beta x) x))

-- skip if the norm is below 1e-15; else v0 becomes leading + sign * norm
unfoldable pub normed : ℕ → ℕ → ℕ → List Float → Float → List Float × Float
normed m n j l norm =
    cond (lt norm 1e-15) (l, +zero)
    (let lead = cell n l j j in
    let x = plus lead (times (sign lead) norm) in
    pushed m n j l x (along j m (led x (cell n l) j) (led x (cell n l) j)))

-- column j: norm = root of the sum of squares from the diagonal down; the matrix after the step and the stored beta (+0.0 where it is skipped)
unfoldable pub column : ℕ → ℕ → ℕ → List Float → List Float × Float
column m n j l = let v = led (cell n l j j) (cell n l) j in normed m n j l (root_of (along j m v v))

-- the matrix after the first k columns
unfoldable pub after : ℕ → ℕ → List Float → ℕ → List Float
after m n a k = loop 0 k (λ j l. (column m n j l).0) a

-- the stored beta of column j, and all of them
unfoldable pub beta : ℕ → ℕ → List Float → ℕ → Float
beta m n a j = (column m n j (after m n a j)).1

unfoldable pub betas : ℕ → ℕ → List Float → List Float
betas m n a = tab n (beta m n a)
