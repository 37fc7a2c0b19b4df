-- What a solve from kept sums promises. Assumes nothing.
use Rattle.std.specs.Prelude.{◌≡◌, List, ℕ, take, Float}
use Rattle.refusal.specs.Answers.{Solved, told}
use Rattle.sums.specs.Kept.{kept_size}
use Rattle.normal.specs.Normal.{normal}

-- the answer r and the values x are those of the normal equations of the matrix m of k columns and the right-hand side b; the kept sums of n columns in s are in t too
pub record FromKept (n k : ℕ) (m b s : List Float) (r : Solved) (x t : List Float) : Type 0 where
  pub values : told r x ≡ normal k m b
  pub kept : take (kept_size n) t ≡ take (kept_size n) s
