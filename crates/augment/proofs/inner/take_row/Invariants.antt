-- The places passed have the numbers of their terms.
use Prim.Native.Nat.{◌+◌, ◌*◌}
use lib.ListN.{length}
use Rattle.steps.specs.Wrote.{Wrote}
use Rattle.places.specs.Columns.{listed}
use Rattle.places.specs.Theta.{by_rows}
use Rattle.augment.proofs.inner.take_row.Given as goal

abbrev pub invariant-loop-c : goal.invariant-loop-c
invariant-loop-c l = Wrote (λ q. l.i * length l.reduced.terms.now + q) 0 l.c (listed l.reduced.terms.now (by_rows l.reduced.theta) l.i) l.initial.s l.s
