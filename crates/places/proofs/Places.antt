-- A walk over theta's columns meets the terms of a support in the order of their reduced places; a table lists them. Assumes nothing.
use mathlib.Core.Path.{◌≡◌, sym, ap, ◌∙◌}
use mathlib.Core.Logic.{⊎_elim}
use mathlib.Core.Bool.{true, false}
use mathlib.Core.List.{List}
use Prim.Native.Nat.{ℕ, ◌+◌, ◌^◌, ◌≤◌, ◌<◌}
use native.Mathlib.Nat.{eq-or-lt_of_le}
use native.Mathlib.Omega.{arith}
use lib.Count.{ones}
use lib.ListN.{length, set, get_or}
use lib.Seq.{get_or-set_same, get_or-set_other}
use Rattle.support.specs.Word.{has, place, term}
use Rattle.support.specs.WordLaws.{passed, has_lt}
use Rattle.support.specs.CountLaws.{place_is, place_lt, place_beyond, count_none, count_take, count_skip}
use Rattle.support.specs.TermLaws.{term_of_place}
use Rattle.places.specs.Columns.{Lists}

-- before the first column no place is passed; a term passes one, another column none; after the last column all are passed
place_none : (w : ℕ) → place w 0 ≡ 0
place_none w = place_is w 0 ∙ count_none (has w)

place_take : (w j : ℕ) → has w j ≡ true → place w (j + 1) ≡ place w j + 1
place_take w j h = place_is w (j + 1) ∙ count_take (has w) j h ∙ ap (λ (p : ℕ). p + 1) (sym (place_is w j))

place_skip : (w j : ℕ) → has w j ≡ false → place w (j + 1) ≡ place w j
place_skip w j h = place_is w (j + 1) ∙ count_skip (has w) j h ∙ sym (place_is w j)

-- the places that the walk has passed at column j are listed
pub record ListedTo (n w j : ℕ) (table : List ℕ) : Type 0 where
  pub each : (p : ℕ) → p < place w j → get_or table p 0 ≡ term n w p

module _ (n w : ℕ) (terms : w < 2 ^ n) where
  pub place_below : (j : ℕ) → has w j ≡ true → place w j < ones w
  place_below j h = place_lt w n j terms (passed h)

  -- the term of a term's place is that term
  at_place : (j : ℕ) → has w j ≡ true → j ≡ term n w (place w j)
  at_place j h = sym (ap (term n w) (place_is w j) ∙ term_of_place n w j (has_lt w n j terms (passed h)) (passed h))

  pub list_none : (table : List ℕ) → ListedTo n w 0 table
  list_none table = record { each = λ p h. absurd (omega (arith, place_none w)) }

  pub list_take : (j : ℕ) (table : List ℕ) → has w j ≡ true → place w j < length table → ListedTo n w j table → ListedTo n w (j + 1) (set table (place w j) j)
  list_take j table h room l =
      record {
        each = λ p b. ⊎_elim
            (λ (e : p ≡ place w j). rw e (get_or-set_same table (place w j) j 0 room ∙ at_place j h))
            (λ (b : p < place w j). get_or-set_other table (place w j) p j 0 (λ e. omega arith) ∙ l.each p b)
            (eq-or-lt_of_le (let z : p ≤ place w j = omega (arith, place_take w j h) in z));
      }

  pub list_skip : (j : ℕ) (table : List ℕ) → has w j ≡ false → ListedTo n w j table → ListedTo n w (j + 1) table
  list_skip j table h l = record { each = λ p b. l.each p (omega (arith, place_skip w j h)) }

  pub list_end : (j : ℕ) (table : List ℕ) → n ≤ j → ListedTo n w j table → Lists n w table
  list_end j table h l = record { each = λ p b. l.each p (omega (arith, place_beyond w n j terms h)) }
