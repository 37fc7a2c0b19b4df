-- Four columns of a page are written row by row. Assumes nothing.
use Rattle.std.specs.Prelude.{◌≡◌, List, ℕ, ◌+◌, ◌-◌, ◌*◌, ◌≤◌, ◌<◌, Float}
use Rattle.std.proofs.Common.{◌∙◌, subst, ⊎_elim, eq-or-lt_of_le, arith}
use Rattle.steps.specs.Num.{Entry, cell}
use Rattle.steps.specs.Cond.{lt_or_ge}
use Rattle.steps.specs.Table.{same_cell}
use Rattle.steps.specs.Wrote.{Wrote}
use Rattle.places.specs.Down.{HoldsAt}

-- the page has the columns before j, and in the rows before k four more
pub record Partly (e : Entry) (n i h j k : ℕ) (page : List Float) : Type 0 where
  pub before_j : (r c : ℕ) → r < h → c < j → cell n page r c ≡ e (i + r) c
  pub rows_done : (r c : ℕ) → r < k → c < j + 4 → cell n page r c ≡ e (i + r) c

module _ (e : Entry) (n i h j : ℕ) (wide : j + 4 ≤ n) where
  pub partly_none : (page : List Float) → HoldsAt (λ c. c) j e n i h page → Partly e n i h j 0 page
  partly_none page o = record { before_j = λ r c a b. o.each r c a b; rows_done = λ r c a b. absurd (omega arith) }

  -- the four numbers of row k
  module _ (k : ℕ) (page page' : List Float) (below : k < h) (w : Wrote (λ q. k * n + (j + q)) 0 4 (λ q. e (i + k) (j + q)) page page') (p : Partly e n i h j k page) where
    -- another place is as it was
    other : (r c : ℕ) → c < n → (r ≡ k → c < j) → cell n page' r c ≡ cell n page r c
    other r c b ne = w.rest (r * n + c) (λ q l l' u. let same = same_cell n r c k (j + q) b (omega arith) u in omega (arith, same.1, ne same.0))

    row : (c : ℕ) → c < j + 4 → cell n page' k c ≡ e (i + k) c
    row c b =
        ⊎_elim
        (λ (l : c < j). other k c (omega arith) (λ u. l) ∙ p.before_j k c below l)
        (λ (l : j ≤ c). let u : j + (c - j) ≡ c = omega arith in subst (λ (d : ℕ). cell n page' k d ≡ e (i + k) d) u (w.done (c - j) (omega arith) (omega arith)))
        (lt_or_ge c j)

    pub partly_more : Partly e n i h j (k + 1) page'
    partly_more =
        record {
          before_j = λ r c a b. other r c (omega arith) (λ u. b) ∙ p.before_j r c a b;
          rows_done = λ r c a b. ⊎_elim
              (λ (u : r ≡ k). rw u (row c b))
              (λ (l : r < k). other r c (omega arith) (λ u. omega arith) ∙ p.rows_done r c l b)
              (eq-or-lt_of_le (let z : r ≤ k = omega arith in z));
        }

  pub partly_end : (k : ℕ) (page : List Float) → h ≤ k → Partly e n i h j k page → HoldsAt (λ c. c) (j + 4) e n i h page
  partly_end k page all p = record { each = λ r c a b. p.rows_done r c (omega arith) b }
