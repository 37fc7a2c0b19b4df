-- A row that loses the products of other rows, one after the other: what that is in each column. Assumes nothing.
use Rattle.std.specs.Prelude.{◌≡◌, List, ℕ, ◌+◌, ◌*◌, ◌≤◌, ◌<◌, length, set, Float}
use Rattle.std.proofs.Common.{refl, sym, ap, ◌∙◌, arith}
use Rattle.steps.specs.Num.{less, times, over, at, cell}
use Rattle.steps.specs.Sums.{less_sum, less_sum_none, less_sum_more, less_sum_end}
use Rattle.inverse.specs.ByColumns.{down_column, ByColumns, WithRow}
use Rattle.inverse.proofs.RowLaws.{other_row, row_again}
use Rattle.inverse.proofs.ColumnLaws.{at_down, columns_with_row}

module _ (n i : ℕ) (f : ℕ → Float) (lo : ℕ) (x : List Float) where
  -- number i of column j less its products with f, from lo to below k
  abbrev pub lost : ℕ → ℕ → Float
  lost k j = less_sum (at (down_column n x j) i) lo k (λ r. times (f r) (at (down_column n x j) r))

  -- row i of x' is so, all else is as it was
  abbrev pub Lost : ℕ → List Float → Type 0
  Lost k x' = WithRow n i (lost k) x x'

  pub lost_none : i < n → Lost lo x
  lost_none h = record { long = refl; done = λ j l hj. sym (less_sum_none _ lo _ ∙ at_down n x j i h); rest = λ k ne. refl }

  pub lost_more : (k : ℕ) (x' x'' : List Float) → lo ≤ k → k < n → (k ≡ i → ⊥) → Lost k x' → WithRow n i (λ j. less (cell n x' i j) (times (f k) (cell n x' k j))) x' x'' → Lost (k + 1) x''
  lost_more k x' x'' l h ne w u =
      row_again n i (lost k) _ (lost (k + 1)) w u (λ j hj.
      less_sum_more _ lo k _ l (w.done j (omega arith) hj) (ap (λ (z : Float). times (f k) z) (other_row n i k j _ hj ne w ∙ sym (at_down n x j k h))))

  -- at last over d: one number of each column
  pub lost_over : (k hi : ℕ) (x' x'' : List Float) (d : Float) → length x ≡ n * n → k ≤ hi → hi ≤ k → Lost k x' → WithRow n i (λ j. over (cell n x' i j) d) x' x'' →
      ByColumns n (λ j. set (down_column n x j) i (over (lost hi j) d)) x''
  lost_over k hi x' x'' d len a b w u =
      columns_with_row n i _ x x'' len (row_again n i (lost k) _ (λ j. over (lost hi j) d) w u (λ j hj.
      ap (λ (z : Float). over z d) (less_sum_end _ lo k hi _ (w.done j (omega arith) hj) a b)))
