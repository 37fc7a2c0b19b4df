-- A support is a word of 64 bits: bit j of the word is one exactly if the term j is in it. Assumes nothing.
-- Rules speak of a word w by the test `has w`, and of a test by `count`, `word` and `terms`; the contracts of `support` speak of whole words.
use Rattle.std.specs.Prelude.{Bool, true, false, not, ◌&&◌, ◌||◌, cond, List, [], ◌∷◌, ◌++◌, ◌≢◌, ℕ, zero, suc, ◌+◌, ◌*◌, ◌/◌, ◌%◌, ◌^◌, T, eqb, ltb, get_or}
use Rattle.std.specs.Int.Count.{ones}

-- ---- a word as a test on term numbers, and back

-- whether the term j is in w
unfoldable pub has : ℕ → ℕ → Bool
has w j = eqb (w / 2 ^ j % 2) 1

-- one for a test that passes, and zero for one that does not
abbrev pub bit : Bool → ℕ
bit true = 1
bit false = 0

-- how many j below n pass the test f
unfoldable pub count : (ℕ → Bool) → ℕ → ℕ
count f zero = 0
count f (suc n) = count f n + bit (f n)

-- the word whose bits below n are the test f; it has no others
unfoldable pub word : (ℕ → Bool) → ℕ → ℕ
word f zero = 0
word f (suc n) = bit (f n) * 2 ^ n + word f n

-- the j below n that pass the test f, rising
unfoldable pub terms : (ℕ → Bool) → ℕ → List ℕ
terms f zero = []
terms f (suc n) = terms f n ++ cond (f n) (n ∷ []) []

-- ---- term numbers and reduced places

-- how many terms below j are in w, the count of ones below bit j: the reduced place of a supported term j
unfoldable pub place : ℕ → ℕ → ℕ
place w j = ones (w % 2 ^ j)

-- the term number of the reduced place p, among n columns of which w has its terms; n where w has no such place
unfoldable pub term : ℕ → ℕ → ℕ → ℕ
term n w p = get_or (terms (has w) n) p n

-- the term number of the reduced place p among all 64 terms; 64, a term that no support has, where w has no such place
abbrev pub term_at : ℕ → ℕ → ℕ
term_at w p = term 64 w p

-- ---- supports made and changed: words of 64 bits, so that a term of 64 or more is never in one

-- the term j alone; no term where j is 64 or more
unfoldable pub alone : ℕ → ℕ
alone j = word (λ k. eqb k j) 64

-- every term below n; all 64 where n is more than 64
unfoldable pub full : ℕ → ℕ
full n = word (λ k. ltb k n) 64

-- the terms of w and the term j; w itself where j is 64 or more
unfoldable pub with_term : ℕ → ℕ → ℕ
with_term w j = word (λ k. has w k || eqb k j) 64

-- the terms of w but the term j; w itself where j is 64 or more
unfoldable pub without_term : ℕ → ℕ → ℕ
without_term w j = word (λ k. has w k && not (eqb k j)) 64

-- ---- subsets

-- every term of w is a term of v
abbrev pub Sub : ℕ → ℕ → Type 0
Sub w v = (j : ℕ) → T (has w j) → T (has v j)

-- w is a strict subset of v
pub record Strict (w v : ℕ) : Type 0 where
  pub within : Sub w v
  pub other : w ≢ v
