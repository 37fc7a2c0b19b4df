-- LU, by document 01's sentences. The matrix is n by n, stored by rows, and is worked on in place. Assumes nothing.
use Rattle.std.specs.Prelude.{◌≡◌, ℕ, ◌+◌, ◌*◌, ◌<◌, cond, List, eqb, set, Float}
use Rattle.std.specs.Float.Ieee.{lt}
use Rattle.steps.specs.Num.{less, times, over, 1e-15, at, cell}
use Rattle.steps.specs.Loops.{loop, down_from, Way, going, stopped, way}
use Rattle.steps.specs.Sums.{less_sum}
use Rattle.steps.specs.Space.{swapped}
use Rattle.float64.specs.Root.{abs_of}

-- row i in place of row r only where its magnitude in column k is strictly greater
abbrev pub greater_row : ℕ → List Float → ℕ → ℕ → ℕ → ℕ
greater_row n a k i r = cond (lt (abs_of (cell n a r k)) (abs_of (cell n a i k))) i r

-- the pivot's row: the first of greatest magnitude from the diagonal down
unfoldable pub pivot_row : ℕ → List Float → ℕ → ℕ
pivot_row n a k = loop (k + 1) n (greater_row n a k) k

-- what is said of a pivot that was found: its row and its magnitude
pub record Pivots (n : ℕ) (a : List Float) (k row : ℕ) (size : Float) : Type 0 where
  pub is : row ≡ pivot_row n a k
  pub greatest : size ≡ abs_of (cell n a row k)
  pub within : row < n

-- a swap moves the whole row
unfoldable pub swap_rows : ℕ → ℕ → ℕ → List Float → List Float
swap_rows n k r a = loop 0 n (λ j l. swapped (k * n + j) (r * n + j) l) a

-- and b's entry
unfoldable pub lu_swap : ℕ → ℕ → ℕ → List Float × List Float → List Float × List Float
lu_swap n k r s = cond (eqb r k) s (swap_rows n k r s.0, swapped k r s.1)

-- the rest of row i, less factor times row k
unfoldable pub less_row : ℕ → ℕ → ℕ → Float → List Float → List Float
less_row n k i factor a = loop (k + 1) n (λ j l. set l (i * n + j) (less (cell n l i j) (times factor (cell n l k j)))) a

-- row i: its factor is kept in column k, the rest eliminated
unfoldable pub lu_row : ℕ → ℕ → Float → ℕ → List Float → List Float
lu_row n k pivot i a = let factor = over (cell n a i k) pivot in less_row n k i factor (set a (i * n + k) factor)

-- elimination below row k
unfoldable pub eliminated : ℕ → ℕ → List Float → List Float
eliminated n k a = loop (k + 1) n (lu_row n k (cell n a k k)) a

-- the matrix after elimination, b as it is
unfoldable pub lu_eliminate : ℕ → ℕ → List Float × List Float → List Float × List Float
lu_eliminate n k s = (eliminated n k s.0, s.1)

-- column k with its pivot's row r: refuse if that magnitude is below 1e-15, else swap, then eliminate
unfoldable pub lu_pivoted : ℕ → ℕ → ℕ → List Float × List Float → Way (List Float × List Float)
lu_pivoted n k r s = cond (lt (abs_of (cell n s.0 r k)) 1e-15) (stopped k s) (going (lu_eliminate n k (lu_swap n k r s)))

unfoldable pub lu_column : ℕ → ℕ → List Float × List Float → Way (List Float × List Float)
lu_column n k s = lu_pivoted n k (pivot_row n s.0 k) s

-- the factors, column by column
unfoldable pub lu_factor : ℕ → List Float → List Float → Way (List Float × List Float)
lu_factor n a b = way (lu_column n) 0 n (a, b)

-- forward substitution, with ones on the diagonal
unfoldable pub lu_forward : ℕ → List Float → List Float → List Float
lu_forward n a b = loop 0 n (λ i x. set x i (less_sum (at x i) 0 i (λ k. times (cell n a i k) (at x k)))) b

-- then back substitution
unfoldable pub lu_back : ℕ → List Float → List Float → List Float
lu_back n a b = down_from n (λ i x. set x i (over (less_sum (at x i) (i + 1) n (λ k. times (cell n a i k) (at x k))) (cell n a i i))) b

-- both, with what the factors came to: a refusal leaves the matrix and b as the steps so far made them
unfoldable pub lu_end : ℕ → Way (List Float × List Float) → Way (List Float × List Float)
lu_end n (going s) = going (s.0, lu_back n s.0 (lu_forward n s.0 s.1))
lu_end n (stopped c s) = stopped c s

-- the matrix and b after the solve
unfoldable pub lu : ℕ → List Float → List Float → Way (List Float × List Float)
lu n a b = lu_end n (lu_factor n a b)
