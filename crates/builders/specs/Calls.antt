-- What `jtj` and `jtr` answer and leave. Assumes nothing.
use Rattle.std.specs.Prelude.{◌≡◌, not, List, ℕ, ◌*◌, ltb, eqb, length, Ok, Float}
use Rattle.steps.specs.Num.{at, cell}
use Rattle.refusal.specs.Answers.{Answer, refuse_if, if_done, and_then}
use Rattle.refusal.specs.declared.Refusal.TheVariants.{ManyColumns, ManyRows, MatrixLength, TargetLength, OutputLength}
pub use Rattle.sums.specs.Products.{ridge, marquardt}
use Rattle.sums.specs.Products.{gram, moment, jtj_matrix, jtr_column}

-- the first refusal that applies to a matrix of this length
unfoldable pub matrix_sizes : ℕ → ℕ → ℕ → Answer
matrix_sizes rows n matrix =
    refuse_if (ltb 64 n) ManyColumns (refuse_if (ltb 4096 rows) ManyRows (refuse_if (not (eqb matrix (rows * n))) MatrixLength (Ok tt)))

-- then to the other lengths
unfoldable pub jtj_sizes : ℕ → ℕ → ℕ → ℕ → Answer
jtj_sizes rows n matrix out = and_then (matrix_sizes rows n matrix) (refuse_if (not (eqb out (n * n))) OutputLength (Ok tt))

unfoldable pub jtr_sizes : ℕ → ℕ → ℕ → ℕ → ℕ → Answer
jtr_sizes rows n matrix target out =
    and_then (matrix_sizes rows n matrix) (refuse_if (not (eqb target rows)) TargetLength (refuse_if (not (eqb out n)) OutputLength (Ok tt)))

-- `jtj`: the pair sums of the columns, damped, by `ridge` or by `marquardt`
pub record JtjCall (damp : Float → Float) (jac : List Float) (rows n : ℕ) (out out' : List Float) (r : Answer) : Type 0 where
  pub answer : r ≡ jtj_sizes rows n (length jac) (length out)
  pub matrix : out' ≡ if_done r (jtj_matrix damp n (gram (cell n jac) rows)) out

-- `jtr`: the products of the columns and the target
pub record JtrCall (jac t : List Float) (rows n : ℕ) (out out' : List Float) (r : Answer) : Type 0 where
  pub answer : r ≡ jtr_sizes rows n (length jac) (length t) (length out)
  pub column : out' ≡ if_done r (jtr_column n (moment (cell n jac) (at t) rows)) out
