-- Kept sums: before the first row, after one page more, and when the last has been taken. Assumes nothing.
use mathlib.Core.Path.{◌≡◌, ap₂, ◌∙◌}
use mathlib.Core.List.{List, ◌++◌}
use Prim.Native.Nat.{ℕ, ◌+◌, ◌*◌, ◌<◌}
use native.Mathlib.Omega.{arith}
use lib.ListN.{length, take, drop, length-take, length-drop}
use lib.Seq.{get_or-take, get_or-drop}
use lib.Ieee.{Float, nan}
use Rattle.steps.specs.Num.{Entry, +zero, at}
use Rattle.steps.specs.Rows.{Rows}
use Rattle.sums.specs.Products.{gram, moment, jtr_column}
use Rattle.sums.specs.Kept.{kept_size, kept_sums}
use Rattle.sums.specs.Pages.{Holds, upper}
use Rattle.sums.specs.PageLaws.{sums_none, sums_more, mirror_end, products_none, products_more, products_end}
use Rattle.keep.specs.Taken.{KeptSums, TookPage}

-- the square, and what stands behind it
module _ (n : ℕ) (s : List Float) (long : length s ≡ kept_size n) where
  head_long : length (take (n * n) s) ≡ n * n
  head_long = simp length-take (omega arith)

  tail_long : length (drop (n * n) s) ≡ n
  tail_long = simp length-drop (omega arith)

-- no row yet: every number is +0.0
pub kept_none : (e : Entry) (t : ℕ → Float) (n : ℕ) (s : List Float) → length s ≡ kept_size n → ((k : ℕ) → k < kept_size n → at s k ≡ +zero) → KeptSums e t n 0 s
kept_none e t n s long zeros =
    record {
      long = long;
      pairs = sums_none e n _ (head_long n s long) (λ k h. get_or-take (n * n) s k nan h ∙ zeros k (omega arith));
      products = products_none e t n _ (λ q b. get_or-drop (n * n) s q nan ∙ zeros (n * n + q) (omega arith));
    }

-- one page more
pub kept_more : (e : Entry) (n i h : ℕ) (page target s t : List Float) → Holds e n i h page → KeptSums e (at target) n i s → TookPage page n h target i s t →
    KeptSums e (at target) n (i + h) t
kept_more e n i h page target s t o m g =
    record {
      long = g.long ∙ m.long;
      pairs = sums_more e n i h page _ _ o m.pairs g.pairs;
      products = products_more e n i h page target _ _ o m.products g.products;
    }

-- all rows, and the square is mirrored
pub kept_end : (e : Entry) (t : ℕ → Float) (n rows : ℕ) (s a : List Float) → KeptSums e t n rows s → Rows n n (upper n (take (n * n) s)) (take (n * n) s) n a →
    a ++ drop (n * n) s ≡ kept_sums n (gram e rows) (moment e t rows)
unfolding kept_sums jtr_column
kept_end e t n rows s a m w = ap₂ ◌++◌ (mirror_end e n rows _ a m.pairs w) (products_end n _ _ (tail_long n s m.long) m.products)
