-- Theta's supported columns with the rows below them, and the target with zeros. Assumes nothing.
use mathlib.Core.Path.{◌≡◌, refl, sym, ap, ◌∙◌, subst}
use mathlib.Core.Logic.{◌⊎◌, inl, inr, ⊎_elim}
use mathlib.Core.Bool.{cond}
use mathlib.Core.List.{List, ◌++◌}
use Prim.Native.Nat.{ℕ, ◌+◌, ◌-◌, ◌*◌, ◌≤◌, ◌<◌}
use native.Mathlib.Nat.{eq-or-lt_of_le}
use native.Mathlib.Omega.{arith}
use lib.Count.{ones}
use lib.Dec.{eqb}
use lib.ListN.{length, drop, replicate, length-append, length-drop, length-replicate, get_or-append, get_or-replicate}
use lib.Seq.{get_or-drop, get_or-append-add}
use lib.Ieee.{Float, nan}
use borrow.Author.Tests.{lt-ltb, le-ltb}
use Rattle.steps.specs.Num.{+zero, Entry, at, cell}
use Rattle.steps.specs.Cond.{lt_or_ge}
use Rattle.steps.specs.Table.{tab, is_tab, table, is_table}
use Rattle.steps.specs.Space.{cleared, cleared_all}
use Rattle.steps.specs.Wrote.{Wrote}
use Rattle.steps.specs.Rows.{Rows, rows_apart}
use Rattle.places.specs.Columns.{columns, Lists, listed}
use Rattle.places.specs.ColumnLaws.{listed_is}
use Rattle.rule.specs.Fits.{augmented, padded}
use Rattle.augment.specs.Ridged.{Ridged}

pub ridge_none : (rows k : ℕ) (root : Float) (s : List Float) → Ridged rows k root 0 s s
ridge_none rows k root s = record { long = refl; new = λ r c h g. absurd (omega arith); old = λ r c h g. refl }

-- one more of the rows below
pub ridge_more : (rows k : ℕ) (root : Float) (i : ℕ) (s s' s'' : List Float) → Ridged rows k root i s s'
    → Wrote (λ c. (rows + i) * k + c) 0 k (λ c. cond (eqb i c) root +zero) s' s'' → Ridged rows k root (i + 1) s s''
ridge_more rows k root i s s' s'' d u =
    record {
      long = u.long ∙ d.long;
      new = λ r c h g. ⊎_elim
          (λ q. subst (λ (j : ℕ). cell k s'' (rows + j) c ≡ cond (eqb j c) root +zero) (sym q) (u.done c (omega arith) g))
          (λ z. same (rows + r) c (omega arith) g ∙ d.new r c z g)
          (eq-or-lt_of_le (let z : r ≤ i = omega arith in z));
      old = λ r c h g. same r c (omega arith) g ∙ d.old r c h g;
    }
  where
    same : (r c : ℕ) → r < rows + i → c < k → cell k s'' r c ≡ cell k s' r c
    same r c h g = u.rest (r * k + c) (λ c' a b q. rows_apart k r (rows + i) c c' (inl h) g b q)

-- the gathered rows and the rows below are the augmented matrix
module _ (rows n w k : ℕ) (root : Float) (e : Entry) (l : List ℕ) (s s₁ s₂ : List Float) (few : k ≡ ones w) (len : length s ≡ (rows + k) * k)
    (ls : Lists n w l) (top : Rows (rows + k) k (listed l e) s rows s₁) (low : Ridged rows k root k s₁ s₂) where
  entry : (i c : ℕ) → i < rows + k → c < k → (i < rows) ⊎ (rows ≤ i) → cell k s₂ i c ≡ augmented rows root (columns n w e) i c
  unfolding augmented
  entry i c h g (inl b) =
      low.old i c b g ∙ top.new i c b g ∙ listed_is n w l ls e i c (omega arith) ∙ sym (rw (lt-ltb i rows b))
  entry i c h g (inr b) =
      let row : rows + (i - rows) ≡ i = omega arith in
      subst (λ (x : ℕ). cell k s₂ x c ≡ cond (eqb (i - rows) c) root +zero) row (low.new (i - rows) c (omega arith) g) ∙ sym (rw (le-ltb i rows b))

  pub augmented_is : s₂ ≡ table (rows + k) k (augmented rows root (columns n w e))
  augmented_is = is_table (rows + k) k _ s₂ nan (low.long ∙ top.long ∙ len) (λ i c h g. entry i c h g (lt_or_ge i rows))

-- the target copied over zeros
pub padded_is : (k : ℕ) (t u b b' : List Float) → length b ≡ length t + k → u ≡ t → b' ≡ cleared (length t + k) b → u ++ drop (length t) b' ≡ tab (length t + k) (padded (length t) (at t))
unfolding padded
padded_is k t u b b' len is-u is_b =
    rw (is-u, is_b, cleared_all (length t + k) b len)
    (is_tab (length t + k) _ (t ++ behind) nan (simp (length-append, length-drop) (omega (arith, long))) (λ i h. by i h (lt_or_ge i (length t))))
  where
    zs : List Float
    zs = replicate (length t + k) +zero

    behind : List Float
    behind = drop (length t) zs

    long : length zs ≡ length t + k
    long = length-replicate (length t + k) +zero

    by : (i : ℕ) → i < length t + k → (i < length t) ⊎ (length t ≤ i) → at (t ++ behind) i ≡ padded (length t) (at t) i
    by i h (inl b) = get_or-append t behind nan i b ∙ sym (rw (lt-ltb i (length t) b))
    by i h (inr b) =
        let e : length t + (i - length t) ≡ i = omega arith in
        ap (at (t ++ behind)) (sym e)
        ∙ get_or-append-add t behind (i - length t) nan
        ∙ get_or-drop (length t) zs (i - length t) nan
        ∙ ap (at zs) e
        ∙ get_or-replicate (length t + k) i +zero nan h
        ∙ sym (rw (le-ltb i (length t) b))
