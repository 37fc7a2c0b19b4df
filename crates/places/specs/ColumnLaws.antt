-- The columns that a table of a support lists are the support's columns; the full support's are theta's own. Assumes nothing.
use Rattle.std.specs.Prelude.{◌≡◌, List, ℕ, ◌+◌, ◌*◌, ◌^◌, ◌≤◌, ◌<◌, length, take, get_or, Float}
use Rattle.std.proofs.Math.Path.{ap}
use Rattle.std.proofs.Common.{mul_comm, arith}
use Rattle.std.specs.Int.Count.{ones}
use Rattle.std.proofs.lemmas.Nat.{ones-le}
use Rattle.std.proofs.lemmas.List.{get_or-take, length-take-le}
use Rattle.steps.specs.Num.{Entry}
use Rattle.steps.specs.Table.{row_fits}
use Rattle.support.specs.Word.{full}
use Rattle.support.specs.TermLaws.{term_below, term_full}
use Rattle.places.specs.Columns.{Within, columns, Lists, Names, Listed, listed}

module _ (n w : ℕ) (table : List ℕ) (l : Lists n w table) where
  -- each is a column
  pub names_in : (k : ℕ) → n ≤ 64 → w < 2 ^ n → k ≡ ones w → n ≤ length table → Names n k table
  names_in k small terms e room =
      let few = ones-le n w terms in
      record {
        few_columns = small;
        few = omega arith;
        long = omega arith;
        each = λ p h.
            let b : p < ones w = omega arith in
            omega (arith, l.each p b, term_below n w p terms b);
      }

  pub listed_in : (theta : List Float) (rows k : ℕ) → Within theta rows n w → k ≡ ones w → n ≤ length table → Listed rows n k table theta
  listed_in theta rows k sizes e room = record { names = names_in k sizes.few_columns sizes.terms e room; matrix = sizes.matrix }

  -- the head of the table lists them too, and has as many numbers as there are terms
  pub lists_head : (k : ℕ) → k ≡ ones w → Lists n w (take k table)
  lists_head k e = record { each = λ p h. let within : p < k = omega arith in rw get_or-take (l.each p h) }

  pub length_head : (k : ℕ) → w < 2 ^ n → k ≡ ones w → n ≤ length table → length (take k table) ≡ ones w
  length_head k terms e room =
      let few = ones-le n w terms in
      let fits : k ≤ length table = omega arith in
      omega (arith, length-take-le k table fits)

  pub names_head : (k : ℕ) → n ≤ 64 → w < 2 ^ n → k ≡ ones w → n ≤ length table → Names n (length (take k table)) (take k table)
  names_head k small terms e room =
      let long = length_head k terms e room in
      let names = names_in k small terms e room in
      record {
        few_columns = small;
        few = omega (arith, names.few);
        long = omega arith;
        each = λ p h. let within : p < k = omega arith in rw get_or-take (names.each p within);
      }

  -- what is listed at a place is the support's column
  pub listed_is : (e : Entry) (i p : ℕ) → p < ones w → listed table e i p ≡ columns n w e i p
  unfolding listed columns
  listed_is e i p h = ap (e i) (l.each p h)

-- in a theta by columns, h rows of a listed column from row i on are there
pub listed_fits : (rows n k : ℕ) (table : List ℕ) (theta : List Float) → Listed rows n k table theta → (p i h : ℕ) {j : ℕ} → j ≡ get_or table p 0 → p < k → i + h ≤ rows
    → j * rows + i + h ≤ length theta
listed_fits rows n k table theta l p i h {j} e b few =
    let within : j < n = rw e (l.names.each p b) in
    omega (arith, l.matrix, row_fits n rows j within, mul_comm n rows)

-- the columns of the full support are theta's own
pub columns_full : (n : ℕ) (e : Entry) (i p : ℕ) → n ≤ 64 → p < n → columns n (full n) e i p ≡ e i p
unfolding columns
columns_full n e i p h k = ap (e i) (term_full n p h k)
