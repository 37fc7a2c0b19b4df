-- What the solvers answer and leave. Assumes nothing.
use Rattle.std.specs.Prelude.{Err, Ok, ◌≡◌, not, List, ℕ, ◌+◌, ◌*◌, ltb, eqb, length, Float}
use Rattle.steps.specs.Loops.{Way, final}
use Rattle.steps.specs.Space.{cleared}
use Rattle.refusal.specs.Answers.{refuse_if, if_done, and_then, ended, Solution, solved, refused, Answer}
use Rattle.refusal.specs.declared.Refusal.{Refusal}
use Rattle.refusal.specs.declared.Refusal.TheVariants.{ManyColumns, ManyRows, MatrixLength, TargetLength, OutputLength, FewRows, WorkspaceShort, NotSpd, SmallPivot}
use Rattle.cholesky.specs.Cholesky.{cholesky}
use Rattle.lu.specs.Lu.{lu}
use Rattle.inverse.specs.Inverse.{invert}
use Rattle.normal.specs.Normal.{normal}
use Rattle.least.specs.Least.{least}

-- ---- sizes: the first refusal that applies to these lengths

-- a square solver of n columns
unfoldable pub square_sizes : ℕ → ℕ → ℕ → Answer
square_sizes n matrix right =
    refuse_if (ltb 64 n) ManyColumns
    (refuse_if (not (eqb matrix (n * n))) MatrixLength
    (refuse_if (not (eqb right n)) TargetLength
    (Ok tt)))

-- the normal equations need n² numbers of workspace
unfoldable pub normal_sizes : ℕ → ℕ → ℕ → ℕ → Answer
normal_sizes n matrix right space = and_then (square_sizes n matrix right) (refuse_if (ltb space (n * n)) WorkspaceShort (Ok tt))

-- the inverse needs n² + n
unfoldable pub invert_sizes : ℕ → ℕ → ℕ → ℕ → Answer
invert_sizes n matrix out space =
    refuse_if (ltb 64 n) ManyColumns
    (refuse_if (not (eqb matrix (n * n))) MatrixLength
    (refuse_if (not (eqb out (n * n))) OutputLength
    (refuse_if (ltb space (n * n + n)) WorkspaceShort
    (Ok tt))))

-- the workspace of least squares: m·n + 2·m + 2·n
unfoldable pub least_need : ℕ → ℕ → ℕ
least_need m n = m * n + 2 * m + 2 * n

-- least squares of m rows and n columns
unfoldable pub least_sizes : ℕ → ℕ → ℕ → ℕ → ℕ → ℕ → Answer
least_sizes m n matrix right out space =
    refuse_if (ltb 64 n) ManyColumns
    (refuse_if (ltb 4160 m) ManyRows
    (refuse_if (not (eqb matrix (m * n))) MatrixLength
    (refuse_if (not (eqb right m)) TargetLength
    (refuse_if (not (eqb out n)) OutputLength
    (refuse_if (ltb m n) FewRows
    (refuse_if (ltb space (least_need m n)) WorkspaceShort
    (Ok tt)))))))

-- ---- calls: refused sizes leave every slice unchanged

-- a square solver: the solve leaves a and b also where it refuses, which is answered as `why` at its column
pub record SquareCall (why : ℕ → Refusal) (solve : Way (List Float × List Float)) (a b : List Float) (n : ℕ) (a' b' : List Float) (r : Answer) : Type 0 where
  pub sizes : Answer
  pub judged : sizes ≡ square_sizes n (length a) (length b)
  pub answer : r ≡ and_then sizes (ended why solve)
  pub matrix : a' ≡ if_done sizes (final solve).0 a
  pub right : b' ≡ if_done sizes (final solve).1 b

-- `solve_spd_cholesky`: 8 leaves b unchanged, and the factor in the columns before the refused one
abbrev pub CholeskyCall : List Float → List Float → ℕ → List Float → List Float → Answer → Type 0
CholeskyCall a b n a' b' r = SquareCall NotSpd (cholesky n a b) a b n a' b' r

-- `solve_lu`: 9 leaves the matrix and b as the steps so far made them
abbrev pub LuCall : List Float → List Float → ℕ → List Float → List Float → Answer → Type 0
LuCall a b n a' b' r = SquareCall SmallPivot (lu n a b) a b n a' b' r

-- `solve_normal_equations`: never 8; 9 carries LU's column and leaves b with LU's swaps; the workspace is cleared after both
pub record NormalCall (a b : List Float) (n : ℕ) (b' w w' : List Float) (r : Answer) : Type 0 where
  pub sizes : Answer
  pub judged : sizes ≡ normal_sizes n (length a) (length b) (length w)
  pub answer : r ≡ and_then sizes (ended SmallPivot (normal n a b))
  pub right : b' ≡ if_done sizes (final (normal n a b)) b
  pub space : w' ≡ if_done sizes (cleared (n * n) w) w

-- `invert_spd`: 8 carries Cholesky's column and leaves the output unchanged; the workspace is cleared after acceptance and after 8
pub record InvertCall (a : List Float) (n : ℕ) (o o' w w' : List Float) (r : Answer) : Type 0 where
  pub sizes : Answer
  pub judged : sizes ≡ invert_sizes n (length a) (length o) (length w)
  pub answer : r ≡ and_then sizes (ended NotSpd (invert n a o))
  pub out : o' ≡ if_done sizes (final (invert n a o)) o
  pub space : w' ≡ if_done sizes (cleared (n * n + n) w) w

-- a solution as an answer, and what it leaves in the output: a refusal leaves it unchanged
abbrev pub least_answer : Solution → Answer
least_answer (solved x) = Ok tt
least_answer (refused c) = Err (SmallPivot c)

abbrev pub least_out : Solution → List Float → List Float
least_out (solved x) old = x
least_out (refused c) old = old

-- both: r answers so, and the output becomes so
pub record LeastLeft (x : Solution) (o o' : List Float) (r : Answer) : Type 0 where
  pub answer : r ≡ least_answer x
  pub out : o' ≡ least_out x o

-- `solve_least_squares`: the workspace is cleared after acceptance and after 9
pub record LeastCall (a b : List Float) (m n : ℕ) (o o' w w' : List Float) (r : Answer) : Type 0 where
  pub sizes : Answer
  pub judged : sizes ≡ least_sizes m n (length a) (length b) (length o) (length w)
  pub answer : r ≡ and_then sizes (least_answer (least m n a b))
  pub out : o' ≡ if_done sizes (least_out (least m n a b) o) o
  pub space : w' ≡ if_done sizes (cleared (least_need m n) w) w
