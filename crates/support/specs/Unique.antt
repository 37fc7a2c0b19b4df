-- Each answer of `support` is the only one: two answers that both meet a method's contract are equal. Assumes nothing.
-- A `Support`, a `Term` or a `Col` is told by its number, `w` and `v` of two supports, `j` of a term, `c` of a column.
use Rattle.std.specs.Prelude.{◌≡◌, Bool, ℕ, eqb}
use Rattle.std.proofs.Common.{sym, ◌∙◌}
use Rattle.std.specs.Int.Count.{ones}
use Rattle.support.specs.Word.{has, place, term_at, full, with_term, without_term}

-- a contract that is an equation has one answer
only : {A : Type 0} {a : A} {r s : A} → r ≡ a → s ≡ a → r ≡ s
only p q = p ∙ sym q

pub empty_unique : (r s : ℕ) → r ≡ 0 → s ≡ 0 → r ≡ s
empty_unique r s = only

pub full_unique : (n r s : ℕ) → r ≡ full n → s ≡ full n → r ≡ s
full_unique n r s = only

pub with_unique : (w j r s : ℕ) → r ≡ with_term w j → s ≡ with_term w j → r ≡ s
with_unique w j r s = only

pub without_unique : (w j r s : ℕ) → r ≡ without_term w j → s ≡ without_term w j → r ≡ s
without_unique w j r s = only

pub contains_unique : (w j : ℕ) (r s : Bool) → r ≡ has w j → s ≡ has w j → r ≡ s
contains_unique w j r s = only

pub count_unique : (w r s : ℕ) → r ≡ ones w → s ≡ ones w → r ≡ s
count_unique w r s = only

pub place_unique : (w j r s : ℕ) → r ≡ place w j → s ≡ place w j → r ≡ s
place_unique w j r s = only

pub same_unique : (w v : ℕ) (r s : Bool) → r ≡ eqb w v → s ≡ eqb w v → r ≡ s
same_unique w v r s = only

pub term_at_unique : (w c r s : ℕ) → r ≡ term_at w c → s ≡ term_at w c → r ≡ s
term_at_unique w c r s = only
