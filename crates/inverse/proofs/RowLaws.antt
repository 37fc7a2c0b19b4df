-- A row of a matrix that is written anew, from left to right. Assumes nothing.
use Rattle.std.specs.Prelude.{◌≡◌, List, ℕ, ◌+◌, ◌*◌, ◌<◌, Float}
use Rattle.std.proofs.Common.{◌∙◌, arith}
use Rattle.steps.specs.Num.{cell}
use Rattle.steps.specs.Table.{same_cell}
use Rattle.steps.specs.Wrote.{Wrote}
use Rattle.inverse.specs.ByColumns.{WithRow}

module _ (n i : ℕ) {x x' : List Float} where
  -- what stands from column j on, in any row, is as it was while the row is written to below j
  pub still : (k j : ℕ) (g : ℕ → Float) → j < n → Wrote (λ c. i * n + c) 0 j g x x' → cell n x' k j ≡ cell n x k j
  still k j g h w = w.rest (k * n + j) (λ c l l' e. let q = same_cell n k j i c h (omega arith) e in omega arith)

  -- other rows are as they were
  pub other_row : (k j : ℕ) (g : ℕ → Float) → j < n → (k ≡ i → ⊥) → WithRow n i g x x' → cell n x' k j ≡ cell n x k j
  other_row k j g h ne w = w.rest (k * n + j) (λ c l l' e. ne (same_cell n k j i c h l' e).0)

  -- written once more: only the last counts
  pub row_again : {x'' : List Float} (g f h : ℕ → Float) → WithRow n i g x x' → WithRow n i f x' x'' → ((j : ℕ) → j < n → f j ≡ h j) → WithRow n i h x x''
  row_again g f h w u same =
      record { long = u.long ∙ w.long; done = λ j l l'. u.done j l l' ∙ same j l'; rest = λ k ne. u.rest k ne ∙ w.rest k ne }
