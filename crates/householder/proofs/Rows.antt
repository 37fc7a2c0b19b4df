-- The matrix after a column's step, row by row. Assumes nothing.
use Rattle.std.specs.Prelude.{◌≡◌, List, ℕ, ◌+◌, ◌*◌, ◌≤◌, ◌<◌, length, set, Float}
use Rattle.std.proofs.Common.{refl, sym, ap, ◌∙◌, subst, ⊎_elim, eq-or-lt_of_le, arith, lt-ltb, le-ltb, le-leb, eq-eqb, ne_eqb, length-set, get_or-set_same, get_or-set_other}
use Rattle.std.proofs.Math.Arith.{digits_lt}
use Rattle.std.proofs.Math.Bool.{and-false}
use Rattle.std.proofs.lemmas.Bool.{lt-leb}
use Rattle.std.specs.Float.{nan}
use Rattle.steps.specs.Num.{less, times, over, at, Entry, cell}
use Rattle.steps.specs.Cond.{lt_or_ge}
use Rattle.steps.specs.Table.{is_table, table_cong}
use Rattle.steps.specs.Wrote.{Wrote}
use Rattle.steps.specs.Rows.{Rows, rows_more, rows_apart}
use Rattle.transpose.specs.Led.{led}
use Rattle.householder.specs.Qr.{store, lose, reflect}

-- the column with its leading entry replaced
pub led_same : (x : Float) (e : Entry) (j : ℕ) → led x e j j ≡ x
unfolding led
led_same x e j = simp (eq-eqb j j refl)

pub led_below : (x : Float) (e : Entry) (j i : ℕ) → j < i → led x e j i ≡ e i j
unfolding led
led_below x e j i h = simp (ne_eqb i j (λ q. omega arith))

-- the entries after the step
module _ (j : ℕ) (x : Float) (t : ℕ → Float) (e : Entry) where
  abbrev pub New : Entry
  New = store j (led x e j) x (lose j (led x e j) t e)

  pub new_high : (i c : ℕ) → i < j → New i c ≡ e i c
  unfolding store lose
  new_high i c h = simp (le-ltb j i (omega arith), lt-leb j i h)

  pub new_left : (i c : ℕ) → c < j → New i c ≡ e i c
  unfolding store lose
  new_left i c h = simp (ne_eqb c j (λ q. omega arith), lt-leb j c h, and-false)

  pub new_lead : (c : ℕ) → j ≤ c → New j c ≡ less (e j c) (times (t c) x)
  unfolding store lose
  new_lead c h = simp (le-ltb j j (omega arith), le-leb j j (omega arith), le-leb j c h, led_same x e j)

  pub new_stored : (i : ℕ) → j < i → New i j ≡ over (e i j) x
  unfolding store lose
  new_stored i h = simp (lt-ltb j i h, eq-eqb j j refl, led_below x e j i h)

  pub new_right : (i c : ℕ) → j < i → j < c → New i c ≡ less (e i c) (times (t c) (e i j))
  unfolding store lose
  new_right i c h g = simp (lt-ltb j i h, ne_eqb c j (λ q. omega arith), le-leb j i (omega arith), le-leb j c (omega arith), led_below x e j i h)

-- only the shares of the columns from j on are read
new_cong : (j : ℕ) (x : Float) (t u : ℕ → Float) (e : Entry) (i c : ℕ) → t c ≡ u c → New j x t e i c ≡ New j x u e i c
unfolding store lose
new_cong j x t u e i c q = rw q

pub reflect_cong : (m n j : ℕ) (x : Float) (t u : ℕ → Float) (l : List Float) → ((c : ℕ) → j ≤ c → c < n → t c ≡ u c) → reflect m n j x t l ≡ reflect m n j x u l
unfolding reflect
reflect_cong m n j x t u l h =
    let e = cell n l in
    table_cong m n (New j x t e) (New j x u e)
    (λ i c a b. ⊎_elim (λ k. new_left j x t e i c k ∙ sym (new_left j x u e i c k)) (λ k. new_cong j x t u e i c (h c k b)) (lt_or_ge c j))

module _ (m n j : ℕ) (x : Float) (t l : List Float) (size : length l ≡ m * n) (wide : j < n) where
  -- the rows above i have had their step
  abbrev pub Reflected : ℕ → List Float → Type 0
  Reflected i l' = Rows m n (New j x (at t) (cell n l)) l i l'

  pub reflected_none : Reflected j l
  reflected_none = record { long = refl; new = λ r c h g. sym (new_high j x (at t) (cell n l) r c h); old = λ r c h h' g. refl }

  -- the leading row's step
  pub reflected_lead : (l' : List Float) → Wrote (λ c. j * n + c) j n (λ c. less (at l (j * n + c)) (times (at t c) x)) l l' → Reflected (j + 1) l'
  reflected_lead l' w =
      rows_more m n _ l j l l' reflected_none w.long
      (λ c h. ⊎_elim
      (λ k. w.rest (j * n + c) (λ c' a b q. omega arith) ∙ sym (new_left j x (at t) (cell n l) j c k))
      (λ k. w.done c k h ∙ sym (new_lead j x (at t) (cell n l) c k))
      (lt_or_ge c j))
      (λ r c d h. w.rest (r * n + c) (λ c' a b q. rows_apart n r j c c' d h b q))

  -- the step of a row below it: v is read from column j first, and v / x stored there last
  module _ (i : ℕ) (v : Float) (l₀ l₁ : List Float) (low : j < i) (high : i < m) (w : Reflected i l₀) (lead : v ≡ cell n l₀ i j)
      (u : Wrote (λ c. i * n + c) (j + 1) n (λ c. less (at l₀ (i * n + c)) (times (at t c) v)) l₀ l₁) where
    abbrev e : Entry
    e = cell n l

    abbrev p : ℕ
    p = i * n + j

    abbrev y : Float
    y = over v x

    same : (c : ℕ) → c < n → cell n l₀ i c ≡ e i c
    same c h = w.old i c (omega arith) high h

    on_left : (c : ℕ) → c < n → c < j → cell n (set l₁ p y) i c ≡ New j x (at t) e i c
    on_left c h k = get_or-set_other l₁ p (i * n + c) y nan (λ q. omega arith) ∙ u.rest (i * n + c) (λ c' a b q. omega arith) ∙ same c h ∙ sym (new_left j x (at t) e i c k)

    stored : cell n (set l₁ p y) i j ≡ New j x (at t) e i j
    stored =
        let inside : p < length l₁ = omega (arith, digits_lt high wide, size, u.long, w.long) in
        get_or-set_same l₁ p y nan inside ∙ ap (λ (z : Float). over z x) (lead ∙ same j wide) ∙ sym (new_stored j x (at t) e i low)

    on_right : (c : ℕ) → c < n → j < c → cell n (set l₁ p y) i c ≡ New j x (at t) e i c
    on_right c h q =
        get_or-set_other l₁ p (i * n + c) y nan (λ z. omega arith) ∙ u.done c (omega arith) h
        ∙ ap (λ (z : Float). less z (times (at t c) v)) (same c h)
        ∙ ap (λ (z : Float). less (e i c) (times (at t c) z)) (lead ∙ same j wide)
        ∙ sym (new_right j x (at t) e i c low q)

    pub reflected_row : (l₂ : List Float) → l₂ ≡ set l₁ p y → Reflected (i + 1) l₂
    reflected_row l₂ is =
        rw is
        (rows_more m n (New j x (at t) e) l i l₀ (set l₁ p y) w (length-set l₁ p y ∙ u.long)
        (λ c h. ⊎_elim
        (on_left c h)
        (λ k. ⊎_elim (λ q. subst (λ (z : ℕ). cell n (set l₁ p y) i z ≡ New j x (at t) e i z) q stored) (on_right c h) (eq-or-lt_of_le k))
        (lt_or_ge c j))
        (λ r c d h. get_or-set_other l₁ p (r * n + c) y nan (λ q. rows_apart n r i c j d h wide q) ∙ u.rest (r * n + c) (λ c' a b q. rows_apart n r i c c' d h b q)))

  pub reflected_end : (l' : List Float) → Reflected m l' → l' ≡ reflect m n j x (at t) l
  unfolding reflect
  reflected_end l' w = is_table m n _ l' nan (w.long ∙ size) (λ i c h g. w.new i c h g)
