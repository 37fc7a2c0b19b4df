-- Some rows of a matrix are written a column after another. Assumes nothing.
use Rattle.std.specs.Prelude.{◌≡◌, refl, ◌⊎◌, List, ℕ, ◌+◌, ◌-◌, ◌*◌, ◌≤◌, ◌<◌, length, Float}
use Rattle.std.proofs.Common.{◌∙◌, subst, inl, inr, ⊎_elim, eq-or-lt_of_le, arith}
use Rattle.steps.specs.Num.{Entry, cell}
use Rattle.steps.specs.Cond.{lt_or_ge}
use Rattle.steps.specs.Rows.{Rows}
use Rattle.steps.specs.Wrote.{Wrote}
use Rattle.places.specs.Down.{down_own, down_other, down_outside}

-- of n columns the first m have the numbers of f in the h rows from row i on; the other rows are those of s
pub record Taken (n : ℕ) (f : Entry) (i h m : ℕ) (s s' : List Float) : Type 0 where
  pub long : length s' ≡ length s
  pub new : (k c : ℕ) → k < h → c < m → cell n s' (i + k) c ≡ f (i + k) c
  pub old : (r c : ℕ) → (r < i) ⊎ (i + h ≤ r) → c < n → cell n s' r c ≡ cell n s r c

pub taken_none : (n : ℕ) (f : Entry) (i h : ℕ) (s : List Float) → Taken n f i h 0 s s
taken_none n f i h s = record { long = refl; new = λ k c a b. absurd (omega arith); old = λ r c out b. refl }

-- one column more
pub taken_more : (n : ℕ) (f : Entry) (i h m first : ℕ) (s s' s'' : List Float) → m < n → first ≡ i * n + m → Taken n f i h m s s' →
    Wrote (λ k. k * n + first) 0 h (λ k. f (i + k) m) s' s'' → Taken n f i h (m + 1) s s''
taken_more n f i h m first s s' s'' b e t w =
    record {
      long = w.long ∙ t.long;
      new = λ k c a l. ⊎_elim
          (λ (q : c ≡ m). rw q (down_own n i m h first _ s' s'' e b w k a))
          (λ (z : c < m). down_other n i m h first _ s' s'' e b w (i + k) c (omega arith) (λ q. omega arith) ∙ t.new k c a z)
          (eq-or-lt_of_le (let z : c ≤ m = omega arith in z));
      old = λ r c out l. down_outside n i m h first _ s' s'' e b w r c l out ∙ t.old r c out l;
    }

-- the rows before them are done: then so are these
pub rows_taken : (m n : ℕ) (f : Entry) (l : List Float) (i h : ℕ) (s s' : List Float) → Rows m n f l i s → Taken n f i h n s s' → Rows m n f l (i + h) s'
rows_taken m n f l i h s s' w t =
    record {
      long = t.long ∙ w.long;
      new = λ r c a b. ⊎_elim
          (λ (z : r < i). t.old r c (inl z) b ∙ w.new r c z b)
          (λ (z : i ≤ r). let e : i + (r - i) ≡ r = omega arith in subst (λ (x : ℕ). cell n s' x c ≡ f x c) e (t.new (r - i) c (omega arith) b))
          (lt_or_ge r i);
      old = λ r c a a' b. t.old r c (inr a) b ∙ w.old r c (omega arith) a' b;
    }
