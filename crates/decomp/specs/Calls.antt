-- What `qr` answers and leaves. Assumes nothing.
use Rattle.std.specs.Prelude.{◌≡◌, not, List, ℕ, ◌*◌, ltb, eqb, length, Ok, Float}
use Rattle.steps.specs.Space.{cleared}
use Rattle.refusal.specs.Answers.{Answer, refuse_if, if_done}
use Rattle.refusal.specs.declared.Refusal.TheVariants.{ManyColumns, ManyRows, MatrixLength, OutputLength, FewRows, WorkspaceShort}
use Rattle.householder.specs.Qr.{after, betas}

-- the first refusal that applies to m rows, n columns and these lengths: of the matrix, of both outputs, of the workspace
unfoldable pub qr_sizes : ℕ → ℕ → ℕ → ℕ → ℕ → ℕ → Answer
qr_sizes m n matrix «data» betas space =
    refuse_if (ltb 64 n) ManyColumns
    (refuse_if (ltb 4160 m) ManyRows
    (refuse_if (not (eqb matrix (m * n))) MatrixLength
    (refuse_if (not (eqb «data» (m * n))) OutputLength
    (refuse_if (not (eqb betas n)) OutputLength
    (refuse_if (ltb m n) FewRows
    (refuse_if (ltb space m) WorkspaceShort
    (Ok tt)))))))

-- `qr` of a: the answer, the packed factor, the betas, and m numbers of the workspace cleared
pub record QrCall (a : List Float) (m n : ℕ) (d d' b b' w w' : List Float) (r : Answer) : Type 0 where
  pub answer : r ≡ qr_sizes m n (length a) (length d) (length b) (length w)
  pub factor : d' ≡ if_done r (after m n a n) d
  pub scales : b' ≡ if_done r (betas m n a) b
  pub space : w' ≡ if_done r (cleared m w) w
