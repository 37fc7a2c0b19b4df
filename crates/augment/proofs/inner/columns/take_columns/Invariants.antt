-- The columns of the places passed are taken.
use lib.ListN.{length}
use Rattle.places.specs.Columns.{listed}
use Rattle.places.specs.Theta.{by_columns}
use Rattle.augment.specs.Taken.{Taken}
use Rattle.augment.proofs.inner.columns.take_columns.Given as goal

abbrev pub invariant-loop-c : goal.invariant-loop-c
invariant-loop-c l = Taken (length l.reduced.terms.now) (listed l.reduced.terms.now (by_columns l.reduced.theta)) l.i l.h l.c l.initial.s l.s
