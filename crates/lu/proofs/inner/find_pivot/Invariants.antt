-- `find_pivot` meets its contract. The loop's invariant: row is the pivot's row among those passed, size its magnitude.
use Rattle.std.proofs.Common.{◌≡◌, ◌+◌, ◌<◌}
use Rattle.steps.specs.Num.{cell}
use Rattle.steps.specs.Loops.{loop}
use Rattle.float64.specs.Root.{abs_of}
use Rattle.lu.specs.Lu.{greater_row}
use Rattle.lu.proofs.inner.find_pivot.Given as goal

abbrev pub invariant-loop-i : goal.invariant-loop-i
invariant-loop-i l =
    let a = l.a.numbers.now in
    (l.row < l.a.n) × (l.row ≡ loop (l.k + 1) l.i (greater_row l.a.n a l.k) l.k) × (l.size ≡ abs_of (cell l.a.n a l.row l.k))
