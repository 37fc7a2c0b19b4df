-- `value_of` meets its contract: a reduced place is at most its term number.
use mathlib.Core.Path.{sym, ◌∙◌}
use native.Mathlib.Omega.{arith}
use Rattle.support.specs.Word.{has}
use Rattle.support.specs.CountLaws.{place_is, count_le}
use Rattle.coeffs.proofs.inner.value_of.Goals as goal

pub value_at-requires : goal.value_at-requires
value_at-requires c =
    let a = c.args in
    omega (arith, c.place.ensures, place_is a.support.0 a.term_idx.0, count_le (has a.support.0) a.term_idx.0)

pub returns-then-contains : goal.returns-then-contains
returns-then-contains c = c.value_at.ensures ∙ sym (rw (← c.contains.ensures, c.if-contains.true, ← c.place.ensures))

pub returns-else-contains : goal.returns-else-contains
returns-else-contains c = sym (rw (← c.contains.ensures, c.if-contains.false))
