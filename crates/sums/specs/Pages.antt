-- A page of rows, and the sums that have taken some rows. Of pair sums only those on and above the diagonal are spoken of. Assumes nothing.
use Rattle.std.specs.Prelude.{◌≡◌, List, ℕ, ◌+◌, ◌*◌, ◌≤◌, ◌<◌, min, max, length, Float}
use Rattle.steps.specs.Num.{times, Entry, at, cell}
use Rattle.steps.specs.Sums.{sum}
use Rattle.sums.specs.Products.{gram}

-- a page holds the rows i to below i + h of the matrix e
pub record Holds (e : Entry) (n i h : ℕ) (page : List Float) : Type 0 where
  pub each : (k c : ℕ) → k < h → c < n → cell n page k c ≡ e (i + k) c

-- the entries hold the pair sums of the first `rows` rows of e
pub record UpperSums (e : Entry) (n rows : ℕ) (t : List Float) : Type 0 where
  pub square : length t ≡ n * n
  pub each : (p q : ℕ) → p ≤ q → q < n → cell n t p q ≡ gram e rows p q

-- the entry of s on or above the diagonal that stands for row r, column c
unfoldable pub upper : ℕ → List Float → Entry
upper n s r c = cell n s (min r c) (max r c)

-- the sums s, and the products of a page's first h rows with the targets from number i on
unfoldable pub with_targets : List Float → ℕ → ℕ → List Float → ℕ → List Float → ℕ → Float
with_targets page n h target i s q = sum (at s q) 0 h (λ k. times (cell n page k q) (at target (i + k)))
