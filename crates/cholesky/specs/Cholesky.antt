-- Cholesky, by document 01's sentences. The matrix is n by n, stored by rows, and is worked on in place. Assumes nothing.
use Rattle.std.specs.Prelude.{ℕ, ◌+◌, ◌*◌, cond, List, set, Float}
use Rattle.std.specs.Float.Ieee.{le}
use Rattle.steps.specs.Num.{times, over, one, 1e-14, at, cell}
use Rattle.steps.specs.Loops.{loop, down_from, Way, going, stopped, way}
use Rattle.steps.specs.Sums.{less_sum}
use Rattle.float64.specs.Root.{root_of, abs_of, greater_of}

-- scale = largest of 1 and the |diagonal| entries, NaN passed over
unfoldable pub scale : ℕ → List Float → Float
scale n a = loop 0 n (λ k s. greater_of s (abs_of (cell n a k k))) one

-- start from a(i,j), subtract the products of rows i and j in the earlier columns by rising k
unfoldable pub reduced : ℕ → List Float → ℕ → ℕ → Float
reduced n a i j = less_sum (cell n a i j) 0 j (λ k. times (cell n a i k) (cell n a j k))

-- the entries below the diagonal of column j, whose root is d
unfoldable pub chol_below : ℕ → ℕ → Float → List Float → List Float
chol_below n j d a = loop (j + 1) n (λ i l. set l (i * n + j) (over (reduced n l i j) d)) a

-- store the root d of column j, then the entries below
unfoldable pub chol_store : ℕ → ℕ → Float → List Float → List Float
chol_store n j d a = chol_below n j d (set a (j * n + j) d)

-- column j: refuse if the result is at most the bound (a NaN is not), else store its root, then the entries below
unfoldable pub chol_column : ℕ → Float → ℕ → List Float → Way (List Float)
chol_column n bound j a =
    cond (le (reduced n a j j) bound) (stopped j a) (going (chol_store n j (root_of (reduced n a j j)) a))

-- the factor, column by column; refused at 1e-14 * scale
unfoldable pub chol_factor : ℕ → List Float → Way (List Float)
chol_factor n a = way (chol_column n (times 1e-14 (scale n a))) 0 n a

-- number i of forward substitution: b(i) less the products of row i before the diagonal, over the diagonal
unfoldable pub forward_at : ℕ → List Float → ℕ → List Float → Float
forward_at n l i b = over (less_sum (at b i) 0 i (λ k. times (cell n l i k) (at b k))) (cell n l i i)

-- number i of back substitution, which reads the factor by columns
unfoldable pub back_at : ℕ → List Float → ℕ → List Float → Float
back_at n l i b = over (less_sum (at b i) (i + 1) n (λ k. times (cell n l k i) (at b k))) (cell n l i i)

-- forward substitution, b overwritten
unfoldable pub chol_forward : ℕ → List Float → List Float → List Float
chol_forward n l b = loop 0 n (λ i x. set x i (forward_at n l i x)) b

-- then back substitution
unfoldable pub chol_back : ℕ → List Float → List Float → List Float
chol_back n l b = down_from n (λ i x. set x i (back_at n l i x)) b

-- both, with what the factor came to: a refusal leaves b unchanged
unfoldable pub chol_end : ℕ → List Float → Way (List Float) → Way (List Float × List Float)
chol_end n b (going l) = going (l, chol_back n l (chol_forward n l b))
chol_end n b (stopped c l) = stopped c (l, b)

-- the matrix and b after the solve
unfoldable pub cholesky : ℕ → List Float → List Float → Way (List Float × List Float)
cholesky n a b = chol_end n b (chol_factor n a)
