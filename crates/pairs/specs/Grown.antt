-- What each step of the walk leaves, by index, so that the order of the pairs is free. Only entries on and above the diagonal are spoken of. Assumes nothing.
use Rattle.std.specs.Prelude.{◌≡◌, List, ℕ, ◌≤◌, ◌<◌, length, Float}
use Rattle.steps.specs.Num.{times, Entry, cell}
use Rattle.steps.specs.Sums.{sum}

-- what becomes of the entry at row r, column c
abbrev pub Change : Type 0
Change = ℕ → ℕ → Float → Float

-- x and the products of the columns p and q of the first h rows of a page
unfoldable pub grown : List Float → ℕ → ℕ → Change
grown page n h p q x = sum x 0 h (λ i. times (cell n page i p) (cell n page i q))

-- the entries of s, and those products
unfoldable pub with_rows : List Float → ℕ → ℕ → List Float → Entry
with_rows page n h s p q = grown page n h p q (cell n s p q)

-- row r, column c lies in the rows r0 to below r1 and the columns c0 to below c1
pub record Inside (r0 r1 c0 c1 r c : ℕ) : Type 0 where
  pub top : r0 ≤ r
  pub bottom : r < r1
  pub left : c0 ≤ c
  pub right : c < c1

-- t is s with the entries of a rectangle changed
pub record Changed (f : Change) (n r0 r1 c0 c1 : ℕ) (s t : List Float) : Type 0 where
  pub long : length t ≡ length s
  pub done : (r c : ℕ) → r ≤ c → c < n → Inside r0 r1 c0 c1 r c → cell n t r c ≡ f r c (cell n s r c)
  pub rest : (r c : ℕ) → r ≤ c → c < n → (Inside r0 r1 c0 c1 r c → ⊥) → cell n t r c ≡ cell n s r c

-- the sums of a rectangle took the page's rows
abbrev pub Grew : List Float → ℕ → ℕ → ℕ → ℕ → ℕ → ℕ → List Float → List Float → Type 0
Grew page n h r0 r1 c0 c1 s t = Changed (grown page n h) n r0 r1 c0 c1 s t
