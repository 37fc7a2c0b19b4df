-- `at_place` meets its contract: the table gives the term number.
use Rattle.places.specs.Columns.{listed}
use Rattle.places.proofs.inner.at_place.Goals as goal

pub returns : goal.returns
unfolding listed
returns c = rw (← c.term_of.ensures) c.at_term.ensures
