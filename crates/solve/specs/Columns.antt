-- The column that a solver's refusal carries is one of the matrix. Assumes nothing.
use Rattle.std.specs.Prelude.{Err, None, Ok, Some, ◌≡◌, refl, not, List, ℕ, ◌+◌, ◌*◌, ◌<◌, ltb, eqb, length, Option, Float}
use Rattle.std.proofs.Common.{sym, ap, ◌∙◌}
use Rattle.std.proofs.Math.Path.{subst}
use Rattle.steps.specs.Cond.{either}
use Rattle.steps.specs.Loops.{Way, going, stopped, StopsBelow}
use Rattle.refusal.specs.Answers.{column_of, answer_column, and_then, ended, Solution, solved, refused, Within, Answer}
use Rattle.refusal.specs.declared.Refusal.{Refusal}
use Rattle.refusal.specs.declared.Refusal.TheVariants.{NotSpd, SmallPivot}
use Rattle.cholesky.specs.Cholesky.{cholesky}
use Rattle.cholesky.specs.Refuses.{chol_refuses}
use Rattle.lu.specs.Lu.{lu}
use Rattle.lu.specs.Refuses.{lu_refuses}
use Rattle.inverse.specs.Refuses.{invert_refuses}
use Rattle.inverse.specs.Inverse.{invert}
use Rattle.normal.specs.Refuses.{normal_refuses}
use Rattle.normal.specs.Normal.{normal}
use Rattle.least.specs.Refuses.{least_refuses}
use Rattle.least.specs.Least.{least}
use Rattle.solve.specs.Calls.{square_sizes, normal_sizes, invert_sizes, least_need, least_sizes, CholeskyCall, LuCall, NormalCall, InvertCall, least_answer, LeastCall}

-- an answer that tells no column, or one below n
InMatrix : ℕ → Option ℕ → Type 0
InMatrix n None = Unit {0}
InMatrix n (Some c) = c < n

-- every column that an answer tells is below n
abbrev pub ColumnBelow : ℕ → Answer → Type 0
ColumnBelow n r = (c : ℕ) → answer_column r ≡ Some c → c < n

module _ (n : ℕ) where
  -- of an answer
  M : Answer → Type 0
  M a = InMatrix n (answer_column a)

  -- a call's answer is that of its record
  told : (r : Answer) {s : Answer} → r ≡ s → M s → ColumnBelow n r
  unfolding M InMatrix
  told r e m c q = subst (InMatrix n) (sym (ap answer_column e) ∙ q) m

  -- the first that applies
  both : (a b : Answer) → M a → M b → M (and_then a b)
  unfolding M InMatrix
  both (Ok done) b p q = q
  both (Err w) b p q = p

  -- no refusal for size tells one
  square : (matrix right : ℕ) → M (square_sizes n matrix right)
  unfolding M InMatrix square_sizes
  square matrix right =
      either M (ltb 64 n) _ _ (λ t. tt) (λ f. either M (not (eqb matrix (n * n))) _ _ (λ t. tt) (λ f. either M (not (eqb right n)) _ _ (λ t. tt) (λ f. tt)))

  spaced : (matrix right space : ℕ) → M (normal_sizes n matrix right space)
  unfolding M InMatrix normal_sizes
  spaced matrix right space = both (square_sizes n matrix right) _ (square matrix right) (either M (ltb space (n * n)) _ _ (λ t. tt) (λ f. tt))

  alike : (matrix out space : ℕ) → M (invert_sizes n matrix out space)
  unfolding M InMatrix invert_sizes
  alike matrix out space =
      either M (ltb 64 n) _ _ (λ t. tt) (λ f. either M (not (eqb matrix (n * n))) _ _ (λ t. tt) (λ f. either M (not (eqb out (n * n))) _ _ (λ t. tt)
      (λ f. either M (ltb space (n * n + n)) _ _ (λ t. tt) (λ f. tt))))

  tall : (m matrix right out space : ℕ) → M (least_sizes m n matrix right out space)
  unfolding M InMatrix least_sizes
  tall m matrix right out space =
      either M (ltb 64 n) _ _ (λ t. tt) (λ f. either M (ltb 4160 m) _ _ (λ t. tt) (λ f. either M (not (eqb matrix (m * n))) _ _ (λ t. tt)
      (λ f. either M (not (eqb right m)) _ _ (λ t. tt) (λ f. either M (not (eqb out n)) _ _ (λ t. tt) (λ f. either M (ltb m n) _ _ (λ t. tt)
      (λ f. either M (ltb space (least_need m n)) _ _ (λ t. tt) (λ f. tt)))))))

  -- a solve that stops tells its own, by a refusal that carries it
  ended_at : {S : Type 0} (why : ℕ → Refusal) → ((c : ℕ) → column_of (why c) ≡ Some c) → (w : Way S) → StopsBelow n w → M (ended why w)
  unfolding M InMatrix
  ended_at why carries (going s) p = tt
  ended_at why carries (stopped c s) p = subst (InMatrix n) (sym (carries c)) p

  least_at : (x : Solution) → Within n x → M (least_answer x)
  unfolding M InMatrix
  least_at (solved x) p = tt
  least_at (refused c) p = p

-- so of each call
pub cholesky_column_below : (a b : List Float) (n : ℕ) (a' b' : List Float) (r : Answer) → CholeskyCall a b n a' b' r → ColumnBelow n r
cholesky_column_below a b n a' b' r call = told n r (call.answer ∙ ap (λ s. and_then s _) call.judged) (both n _ _ (square n (length a) (length b)) (ended_at n NotSpd (λ c. refl) (cholesky n a b) (chol_refuses n a b)))

pub lu_column_below : (a b : List Float) (n : ℕ) (a' b' : List Float) (r : Answer) → LuCall a b n a' b' r → ColumnBelow n r
lu_column_below a b n a' b' r call = told n r (call.answer ∙ ap (λ s. and_then s _) call.judged) (both n _ _ (square n (length a) (length b)) (ended_at n SmallPivot (λ c. refl) (lu n a b) (lu_refuses n a b)))

pub normal_column_below : (a b : List Float) (n : ℕ) (w b' w' : List Float) (r : Answer) → NormalCall a b n b' w w' r → ColumnBelow n r
normal_column_below a b n w b' w' r call =
    told n r (call.answer ∙ ap (λ s. and_then s _) call.judged) (both n _ _ (spaced n (length a) (length b) (length w)) (ended_at n SmallPivot (λ c. refl) (normal n a b) (normal_refuses n a b)))

pub invert_column_below : (a : List Float) (n : ℕ) (o w o' w' : List Float) (r : Answer) → InvertCall a n o o' w w' r → ColumnBelow n r
invert_column_below a n o w o' w' r call =
    told n r (call.answer ∙ ap (λ s. and_then s _) call.judged) (both n _ _ (alike n (length a) (length o) (length w)) (ended_at n NotSpd (λ c. refl) (invert n a o) (invert_refuses n a o)))

pub least_column_below : (a b : List Float) (m n : ℕ) (o w o' w' : List Float) (r : Answer) → LeastCall a b m n o o' w w' r → ColumnBelow n r
least_column_below a b m n o w o' w' r call =
    told n r (call.answer ∙ ap (λ s. and_then s _) call.judged) (both n _ _ (tall n m (length a) (length b) (length o) (length w)) (least_at n (least m n a b) (least_refuses m n a b)))
