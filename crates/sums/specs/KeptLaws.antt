-- What stands where in the kept sums; a block of them is the sums of the support's columns. Assumes nothing.
use Rattle.std.specs.Prelude.{◌≡◌, refl, List, ◌++◌, length, take, Float}
use Rattle.std.proofs.Common.{sym, ◌∙◌, arith, take_all}
use Rattle.std.proofs.Math.Path.{ap, ap₂}
use Prim.Native.Nat.{ℕ, ◌+◌, ◌*◌, ◌<◌}
use Rattle.std.proofs.Math.Arith.{digits_lt}
use Rattle.std.proofs.Math.ListN.{length-append, get_or-append}
use Rattle.std.proofs.Math.Seq.{get_or-append-add}
use Rattle.std.specs.Float.Ieee.{nan}
use Rattle.steps.specs.Num.{at, Entry}
use Rattle.steps.specs.Table.{tab, table, get_or_tab, length_tab, at_table, length_table}
use Rattle.places.specs.Columns.{columns}
use Rattle.sums.specs.Products.{gram, moment}
use Rattle.sums.specs.Kept.{kept_size, kept_sums, pair, product, block, side}

module _ (n : ℕ) (g : Entry) (m : ℕ → Float) where
  pub pair_is : (p q : ℕ) → p < n → q < n → pair n (kept_sums n g m) p q ≡ g p q
  unfolding kept_sums
  pair_is p q hp hq = get_or-append (table n n g) (tab n m) nan (p * n + q) (rw length_table (digits_lt hp hq)) ∙ at_table n n g p q nan hp hq

  pub product_is : (p : ℕ) → p < n → product n (kept_sums n g m) p ≡ m p
  unfolding kept_sums
  product_is p h =
      ap (λ (k : ℕ). at (table n n g ++ tab n m) (k + p)) (sym (length_table n n g)) ∙ get_or-append-add (table n n g) (tab n m) p nan ∙ get_or_tab n m p nan h

  kept_long : length (kept_sums n g m) ≡ kept_size n
  unfolding kept_sums
  kept_long = length-append (table n n g) (tab n m) ∙ ap₂ ◌+◌ (length_table n n g) (length_tab n m)

  -- a list that begins with them has the same head
  pub headed : (s : List Float) → take (kept_size n) s ≡ kept_sums n g m → take (kept_size n) s ≡ take (kept_size n) (kept_sums n g m)
  headed s is = is ∙ sym (take_all (kept_size n) (kept_sums n g m) (omega (arith, kept_long)))

-- the pair sums of all columns, at a support's terms, are those of the support's columns; and so the target products
pub block_sums : (n w : ℕ) (e : Entry) (rows p q : ℕ) → block n w (gram e rows) p q ≡ gram (columns n w e) rows p q
unfolding block gram columns
block_sums n w e rows p q = refl

pub side_sums : (n w : ℕ) (e : Entry) (t : ℕ → Float) (rows p : ℕ) → side n w (moment e t rows) p ≡ moment (columns n w e) t rows p
unfolding side moment columns
side_sums n w e t rows p = refl
