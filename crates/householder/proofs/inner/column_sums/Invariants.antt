-- `column_sums` meets its contract. The loop's invariant: the sums are those over the rows passed.
use Rattle.householder.specs.Steps.{Sums}
use Rattle.householder.proofs.inner.column_sums.Given as goal

abbrev pub invariant-loop-i : goal.invariant-loop-i
invariant-loop-i l = Sums l.i l.n l.j l.x l.a l.w
