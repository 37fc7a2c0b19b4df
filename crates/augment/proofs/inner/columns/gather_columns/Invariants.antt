-- The rows of the pages passed have theta's supported numbers.
use Prim.Native.Nat.{◌+◌, ◌*◌, min}
use lib.ListN.{length}
use Rattle.steps.specs.Rows.{Rows}
use Rattle.places.specs.Columns.{listed}
use Rattle.places.specs.Theta.{by_columns}
use Rattle.augment.proofs.inner.columns.gather_columns.Given as goal

abbrev pub invariant-loop-page : goal.invariant-loop-page
invariant-loop-page l =
    let n = length l.reduced.terms.now in
    Rows (l.rows + n) n (listed l.reduced.terms.now (by_columns l.reduced.theta)) l.initial.s (min (32 * l.page) l.rows) l.s
