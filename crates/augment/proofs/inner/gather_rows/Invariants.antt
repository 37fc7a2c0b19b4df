-- The rows passed have theta's supported numbers.
use Prim.Native.Nat.{◌+◌}
use lib.ListN.{length}
use Rattle.steps.specs.Rows.{Rows}
use Rattle.places.specs.Columns.{listed}
use Rattle.places.specs.Theta.{by_rows}
use Rattle.augment.proofs.inner.gather_rows.Given as goal

abbrev pub invariant-loop-i : goal.invariant-loop-i
invariant-loop-i l =
    let n = length l.reduced.terms.now in
    Rows (l.reduced.theta.rows + n) n (listed l.reduced.terms.now (by_rows l.reduced.theta)) l.initial.s l.i l.s
