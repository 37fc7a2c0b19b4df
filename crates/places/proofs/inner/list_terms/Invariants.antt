-- The places of the terms passed are listed.
use Rattle.places.proofs.Places.{ListedTo}
use Rattle.places.proofs.inner.list_terms.Given as goal

abbrev pub invariant-loop-j : goal.invariant-loop-j
invariant-loop-j l = ListedTo l.n_cols l.support.0 l.j l.terms
