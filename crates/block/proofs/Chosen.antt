-- The kept sums at the terms that a table of a support lists are the support's. Assumes nothing.
use Rattle.std.specs.Prelude.{◌≡◌, List, ℕ, ◌<◌, take, Float}
use Rattle.std.specs.Int.Count.{ones}
use Rattle.std.proofs.Common.{ap, ap₂, ◌∙◌, get_or-take, arith}
use Rattle.std.proofs.Math.Arith.{digits_lt}
use Rattle.std.specs.Float.{nan}
use Rattle.steps.specs.Num.{at}
use Rattle.steps.specs.Table.{tab_cong}
use Rattle.places.specs.Columns.{Lists, Names}
use Rattle.sums.specs.Products.{jtj_matrix, jtr_column}
use Rattle.sums.specs.ProductLaws.{jtj_cong}
use Rattle.sums.specs.Kept.{kept_size, pair, product, block, side}
use Rattle.block.specs.Listed.{listed_pair, listed_product}

-- s begins with the kept sums
module _ (n w : ℕ) {table : List ℕ} (l : Lists n w table) (names : Names n (ones w) table) (kept s : List Float) (is : kept ≡ take (kept_size n) s) where
  same : (i : ℕ) → i < kept_size n → at kept i ≡ at s i
  same i h = rw is (get_or-take (kept_size n) s i nan h)

  pub block_listed : (damp : Float → Float) → jtj_matrix damp (ones w) (listed_pair n table kept) ≡ jtj_matrix damp (ones w) (block n w (pair n s))
  unfolding listed_pair block
  block_listed damp =
      jtj_cong damp (ones w) _ _ (λ p q hp hq. same _ (omega (arith, digits_lt (names.each p hp) (names.each q hq))) ∙ ap₂ (pair n s) (l.each p hp) (l.each q hq))

  pub side_listed : jtr_column (ones w) (listed_product n table kept) ≡ jtr_column (ones w) (side n w (product n s))
  unfolding listed_product side jtr_column
  side_listed = tab_cong (ones w) _ _ (λ p h. same _ (omega (arith, names.each p h)) ∙ ap (product n s) (l.each p h))
