-- A matrix by its columns: a row written anew, the unit columns, and the whole. Assumes nothing.
use Rattle.std.specs.Prelude.{◌≡◌, List, ℕ, ◌+◌, ◌*◌, ◌<◌, length, set, replicate, Float}
use Rattle.std.proofs.Common.{sym, ap, ◌∙◌, subst, arith, length-set, get_or-set_same, get_or-set_other}
use Rattle.std.proofs.Math.Arith.{digits_lt}
use Rattle.std.proofs.lemmas.List.{length-replicate, get_or-replicate}
use Rattle.std.specs.Float.{nan}
use mathlib.Core.Logic.{dite}
use native.Mathlib.Decide.{ℕ_discrete}
use Rattle.steps.specs.Num.{+zero, one, at, cell}
use Rattle.steps.specs.Table.{length_tab, get_or_tab, is_tab, is_table}
use Rattle.steps.specs.Wrote.{Wrote, off_diagonal}
use Rattle.inverse.specs.Inverse.{unit, inverse_column, inverse}
use Rattle.inverse.specs.ByColumns.{down_column, ByColumns, WithRow}
use Rattle.inverse.proofs.RowLaws.{other_row}

module _ (n : ℕ) where
  -- number i of column j is row i, column j
  pub at_down : (x : List Float) (j i : ℕ) → i < n → at (down_column n x j) i ≡ cell n x i j
  unfolding down_column
  at_down x j i h = get_or_tab n _ i nan h

  pub length_down : (x : List Float) (j : ℕ) → length (down_column n x j) ≡ n
  unfolding down_column
  length_down x j = length_tab n _

  -- a list of n numbers is a column if it has its numbers
  pub is_column : (x b : List Float) (j : ℕ) → length b ≡ n → ((i : ℕ) → i < n → at b i ≡ cell n x i j) → down_column n x j ≡ b
  unfolding down_column
  is_column x b j len h = sym (is_tab n _ b nan len h)

  -- a list with one number stored
  stored : (b : List Float) (i r : ℕ) (v z : Float) → r < length b → (r ≡ i → v ≡ z) → ((r ≡ i → ⊥) → at b r ≡ z) → at (set b i v) r ≡ z
  stored b i r v z h same other =
      dite (ℕ_discrete r i)
      (λ (e : r ≡ i). subst (λ (k : ℕ). at (set b k v) r ≡ z) e (get_or-set_same b r v nan h ∙ same e))
      (λ (ne : r ≡ i → ⊥). get_or-set_other b i r v nan ne ∙ other ne)

  -- a row written anew is one number of each column
  pub columns_with_row : (i : ℕ) (g : ℕ → Float) (x x' : List Float) → length x ≡ n * n → WithRow n i g x x' → ByColumns n (λ j. set (down_column n x j) i (g j)) x'
  columns_with_row i g x x' len w =
      record {
        square = w.long ∙ len;
        each = λ j hj. is_column x' _ j (length-set (down_column n x j) i (g j) ∙ length_down x j) (λ r hr.
            stored (down_column n x j) i r (g j) (cell n x' r j) (subst (λ (k : ℕ). r < k) (sym (length_down x j)) hr)
            (λ e. subst (λ (k : ℕ). g j ≡ cell n x' k j) (sym e) (sym (w.done j (omega arith) hj)))
            (λ ne. at_down x j r hr ∙ sym (other_row n i r j g hj ne w)));
      }

  -- zeros with 1.0 all along the diagonal
  pub units_columns : (x x' : List Float) → x ≡ replicate (n * n) +zero → Wrote (λ i. i * n + i) 0 n (λ i. one) x x' → ByColumns n (unit n) x'
  unfolding unit
  units_columns x x' zeros w =
      record {
        square = w.long ∙ rw zeros (length-replicate (n * n) +zero);
        each = λ j hj. is_column x' _ j (length-set (replicate n +zero) j one ∙ length-replicate n +zero) (λ r hr.
            stored (replicate n +zero) j r one (cell n x' r j) (subst (λ (k : ℕ). r < k) (sym (length-replicate n +zero)) hr)
            (λ e. subst (λ (k : ℕ). one ≡ cell n x' k j) (sym e) (sym (w.done j (omega arith) hj)))
            (λ ne.
            get_or-replicate n r +zero nan hr
            ∙ sym (off_diagonal n r j _ x x' hj ne w
            ∙ rw zeros (get_or-replicate (n * n) (r * n + j) +zero nan (digits_lt hr hj)))));
      }

  -- the matrix of those columns is the inverse
  pub columns_inverse : (l x : List Float) → ByColumns n (inverse_column n l) x → x ≡ inverse n l
  unfolding inverse
  columns_inverse l x w = is_table n n _ x nan w.square (λ i j hi hj. sym (at_down x j i hi) ∙ ap (λ (b : List Float). at b i) (w.each j hj))
