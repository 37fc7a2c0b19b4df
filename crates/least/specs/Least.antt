-- Least squares: QR, Q-transpose, back substitution, by document 01's sentences. Assumes nothing.
use Rattle.std.specs.Prelude.{ℕ, cond, List, set, take, Float}
use Rattle.std.specs.Float.Ieee.{lt}
use Rattle.steps.specs.Num.{less, times, over, 1e-15, at, cell}
use Rattle.steps.specs.Loops.{loop, Way, going, stopped, way_down}
use Rattle.float64.specs.Root.{abs_of}
use Rattle.refusal.specs.Answers.{Solution, solved, refused}
use Rattle.transpose.specs.Transpose.{qt}
use Rattle.householder.specs.Qr.{after, betas}

-- entry i loses its part of column j
abbrev pub lessened : ℕ → List Float → ℕ → ℕ → List Float → List Float
lessened n a j i x = set x i (less (at x i) (times (cell n a i j) (at x j)))

-- so do the entries above row j
unfoldable pub above : ℕ → List Float → ℕ → List Float → List Float
above n a j x = loop 0 j (lessened n a j) x

-- column j: refuses |r(j,j)| < 1e-15, divides, then updates the entries above
unfoldable pub back_column : ℕ → List Float → ℕ → List Float → Way (List Float)
back_column n a j x =
    cond (lt (abs_of (cell n a j j)) 1e-15) (stopped j x) (going (above n a j (set x j (over (at x j) (cell n a j j)))))

-- back substitution goes from the last column
unfoldable pub back : ℕ → List Float → List Float → Way (List Float)
back n a x = way_down (back_column n a) n x

-- the values are the first n numbers
unfoldable pub values : ℕ → Way (List Float) → Solution
values n (going x) = solved (take n x)
values n (stopped c x) = refused c

-- the least squares solution of the m by n matrix a and the right-hand side b
unfoldable pub least : ℕ → ℕ → List Float → List Float → Solution
least m n a b = let f = after m n a n in values n (back n f (qt m n f (betas m n a) b))
