-- A column is written down the rows of a page, and so are others after it. Assumes nothing.
use Rattle.std.specs.Prelude.{◌≡◌, ◌⊎◌, List, ℕ, ◌+◌, ◌*◌, ◌≤◌, ◌<◌, Float}
use Rattle.std.proofs.Common.{sym, ap, ◌∙◌, ⊎_elim, eq-or-lt_of_le, arith}
use Rattle.std.proofs.Math.Logic.{dite}
use Rattle.std.proofs.Math.Decide.{ℕ_discrete}
use Rattle.steps.specs.Num.{Entry, at, cell}
use Rattle.steps.specs.Table.{same_cell}
use Rattle.steps.specs.Wrote.{Wrote}

-- s' is s with the numbers g at column j of the h rows from row i on, each row of n numbers: `first` is the first of these places
module _ (n i j h first : ℕ) (g : ℕ → Float) (s s' : List Float) (e : first ≡ i * n + j) (b : j < n) (w : Wrote (λ k. k * n + first) 0 h g s s') where
  place_is : (k : ℕ) → k * n + first ≡ (i + k) * n + j
  place_is k = omega arith

  -- the column itself
  pub down_own : (k : ℕ) → k < h → cell n s' (i + k) j ≡ g k
  down_own k l = ap (at s') (sym (place_is k)) ∙ w.done k (omega arith) l

  -- another column
  pub down_other : (r c : ℕ) → c < n → (c ≡ j → ⊥) → cell n s' r c ≡ cell n s r c
  down_other r c l ne = w.rest (r * n + c) (λ k a a' q. ne (same_cell n r c (i + k) j l b (q ∙ place_is k)).1)

  -- another row
  pub down_outside : (r c : ℕ) → c < n → (r < i) ⊎ (i + h ≤ r) → cell n s' r c ≡ cell n s r c
  down_outside r c l out =
      w.rest (r * n + c) (λ k a a' q. let row = (same_cell n r c (i + k) j l b (q ∙ place_is k)).0 in ⊎_elim (λ (z : r < i). omega arith) (λ (z : i + h ≤ r). omega arith) out)

-- a page of n columns has, at its columns c 0 to below c m, the rows i to below i + h of the matrix e
pub record HoldsAt (c : ℕ → ℕ) (m : ℕ) (e : Entry) (n i h : ℕ) (page : List Float) : Type 0 where
  pub each : (k p : ℕ) → k < h → p < m → cell n page k (c p) ≡ e (i + k) (c p)

pub holds_none : (c : ℕ → ℕ) (e : Entry) (n i h : ℕ) (page : List Float) → HoldsAt c 0 e n i h page
holds_none c e n i h page = record { each = λ k p a b. absurd (omega arith) }

-- one column more
pub holds_more : (c : ℕ → ℕ) (m : ℕ) (e : Entry) (n i h : ℕ) (page page' : List Float) → ((p : ℕ) → p ≤ m → c p < n) → HoldsAt c m e n i h page →
    Wrote (λ k. k * n + c m) 0 h (λ k. e (i + k) (c m)) page page' → HoldsAt c (m + 1) e n i h page'
holds_more c m e n i h page page' below was w = record { each = λ k p a b'. by k p a b' (eq-or-lt_of_le (let z : p ≤ m = omega arith in z)) }
  where
    own : (k : ℕ) → k < h → cell n page' k (c m) ≡ e (i + k) (c m)
    own k a = w.done k (omega arith) a

    old : (k p : ℕ) → k < h → p < m → cell n page' k (c p) ≡ e (i + k) (c p)
    old k p a l =
        dite (ℕ_discrete (c p) (c m))
        (λ (q : c p ≡ c m). rw q (own k a))
        (λ (ne : c p ≡ c m → ⊥). down_other n 0 (c m) h (c m) _ page page' (omega arith) (below m (omega arith)) w k (c p) (below p (omega arith)) ne ∙ was.each k p a l)

    by : (k p : ℕ) → k < h → p < m + 1 → (p ≡ m) ⊎ (p < m) → cell n page' k (c p) ≡ e (i + k) (c p)
    by k p a b' d = ⊎_elim (λ (q : p ≡ m). rw q (own k a)) (λ (l : p < m). old k p a l) d
