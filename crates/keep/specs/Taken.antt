-- What is kept of the rows read so far, and what a page more makes of it. Assumes nothing.
use Rattle.std.specs.Prelude.{◌≡◌, List, ℕ, ◌*◌, length, take, drop, Float}
use Rattle.steps.specs.Num.{Entry}
use Rattle.pairs.specs.Grown.{Grew}
use Rattle.sums.specs.Products.{moment}
use Rattle.sums.specs.Kept.{kept_size}
use Rattle.sums.specs.Inner.{Filled}
use Rattle.sums.specs.Pages.{UpperSums, with_targets}

-- the sums of the first `rows` rows of e and of the target t: the pair sums on and above the diagonal, and the target products behind the square
pub record KeptSums (e : Entry) (t : ℕ → Float) (n rows : ℕ) (s : List Float) : Type 0 where
  pub long : length s ≡ kept_size n
  pub pairs : UpperSums e n rows (take (n * n) s)
  pub products : Filled n (moment e t rows) (drop (n * n) s)

-- t is s after the first h rows of a page, the first of them with target number i
pub record TookPage (page : List Float) (n h : ℕ) (target : List Float) (i : ℕ) (s t : List Float) : Type 0 where
  pub long : length t ≡ length s
  pub pairs : Grew page n h 0 n 0 n (take (n * n) s) (take (n * n) t)
  pub products : Filled n (with_targets page n h target i (drop (n * n) s)) (drop (n * n) t)
