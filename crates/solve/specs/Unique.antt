-- Each solver's contract determines its answer and every number that it leaves. Assumes nothing.
use Rattle.std.specs.Prelude.{◌≡◌, List, ℕ, Float}
use Rattle.refusal.specs.Answers.{Answer}
use Rattle.solve.specs.Calls.{CholeskyCall, LuCall, NormalCall, InvertCall, LeastCall}

pub cholesky_unique : (a b : List Float) (n : ℕ) (a' b' a'' b'' : List Float) (r s : Answer) → CholeskyCall a b n a' b' r → CholeskyCall a b n a'' b'' s → (r ≡ s) × (a' ≡ a'') × (b' ≡ b'')
cholesky_unique a b n a' b' a'' b'' r s p q = (cc, cc, cc)

pub lu_unique : (a b : List Float) (n : ℕ) (a' b' a'' b'' : List Float) (r s : Answer) → LuCall a b n a' b' r → LuCall a b n a'' b'' s → (r ≡ s) × (a' ≡ a'') × (b' ≡ b'')
lu_unique a b n a' b' a'' b'' r s p q = (cc, cc, cc)

pub normal_unique : (a b : List Float) (n : ℕ) (w b' w' b'' w'' : List Float) (r s : Answer) → NormalCall a b n b' w w' r → NormalCall a b n b'' w w'' s → (r ≡ s) × (b' ≡ b'') × (w' ≡ w'')
normal_unique a b n w b' w' b'' w'' r s p q = (cc, cc, cc)

pub invert_unique : (a : List Float) (n : ℕ) (o w o' w' o'' w'' : List Float) (r s : Answer) → InvertCall a n o o' w w' r → InvertCall a n o o'' w w'' s → (r ≡ s) × (o' ≡ o'') × (w' ≡ w'')
invert_unique a n o w o' w' o'' w'' r s p q = (cc, cc, cc)

pub least_unique : (a b : List Float) (m n : ℕ) (o w o' w' o'' w'' : List Float) (r s : Answer) → LeastCall a b m n o o' w w' r → LeastCall a b m n o o'' w w'' s → (r ≡ s) × (o' ≡ o'') × (w' ≡ w'')
least_unique a b m n o w o' w' o'' w'' r s p q = (cc, cc, cc)
