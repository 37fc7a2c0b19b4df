-- A matrix that is written row by row. Assumes nothing.
use Rattle.std.specs.Prelude.{◌≡◌, refl, ◌⊎◌, List, ℕ, ◌+◌, ◌*◌, ◌≤◌, ◌<◌, length, Float}
use Rattle.std.proofs.Common.{sym, ◌∙◌, subst, inl, inr, ⊎_elim, eq-or-lt_of_le, arith}
use Rattle.std.proofs.Math.Arith.{digits_lt}
use Rattle.std.specs.Float.{nan}
use Rattle.steps.specs.Num.{Entry, cell}
use Rattle.steps.specs.Table.{table, is_table}
use Rattle.steps.specs.Wrote.{Wrote}

-- rows below i are those of f, the others those of l
pub record Rows (m n : ℕ) (f : Entry) (l : List Float) (i : ℕ) (l' : List Float) : Type 0 where
  pub long : length l' ≡ length l
  pub new : (r c : ℕ) → r < i → c < n → cell n l' r c ≡ f r c
  pub old : (r c : ℕ) → i ≤ r → r < m → c < n → cell n l' r c ≡ cell n l r c

pub rows_none : (m n : ℕ) (f : Entry) (l : List Float) → Rows m n f l 0 l
rows_none m n f l = record { long = refl; new = λ r c h g. absurd (omega arith); old = λ r c h h' g. refl }

pub rows_more : (m n : ℕ) (f : Entry) (l : List Float) (i : ℕ) (l' l'' : List Float) → Rows m n f l i l' → length l'' ≡ length l' →
    ((c : ℕ) → c < n → cell n l'' i c ≡ f i c) → ((r c : ℕ) → (r < i) ⊎ (i < r) → c < n → cell n l'' r c ≡ cell n l' r c) → Rows m n f l (i + 1) l''
rows_more m n f l i l' l'' w len row others =
    record {
      long = len ∙ w.long;
      new = λ r c h g. ⊎_elim
          (λ q. subst (λ (k : ℕ). cell n l'' k c ≡ f k c) (sym q) (row c g))
          (λ k. others r c (inl k) g ∙ w.new r c k g)
          (eq-or-lt_of_le (let z : r ≤ i = omega arith in z));
      old = λ r c h h' g. others r c (inr (let z : i < r = omega arith in z)) g ∙ w.old r c (omega arith) h' g;
    }

-- two places of different rows
pub rows_apart : (n r i c c' : ℕ) → (r < i) ⊎ (i < r) → c < n → c' < n → r * n + c ≡ i * n + c' → ⊥
rows_apart n r i c c' d h h' q = ⊎_elim (λ z. let u : r * n + c < i * n = digits_lt z h in omega arith) (λ z. let u : i * n + c' < r * n = digits_lt z h' in omega arith) d

-- a row written whole
pub rows_wrote : (m n : ℕ) (f : Entry) (l : List Float) (i : ℕ) (l' l'' : List Float) → Rows m n f l i l' → Wrote (λ c. i * n + c) 0 n (f i) l' l'' → Rows m n f l (i + 1) l''
rows_wrote m n f l i l' l'' w u =
    rows_more m n f l i l' l'' w u.long (λ c h. u.done c (omega arith) h) (λ r c d h. u.rest (r * n + c) (λ c' a b q. rows_apart n r i c c' d h b q))

pub rows_end : (m n : ℕ) (f : Entry) (l l' : List Float) → length l ≡ m * n → Rows m n f l m l' → l' ≡ table m n f
rows_end m n f l l' len w = is_table m n f l' nan (w.long ∙ len) (λ i c h g. w.new i c h g)
