-- `less_row` meets its contract. The loop's invariant: the row's numbers in the columns passed have their new value.
use Rattle.std.proofs.Common.{◌+◌, ◌*◌}
use Rattle.steps.specs.Num.{less, times, cell}
use Rattle.steps.specs.Wrote.{Wrote}
use Rattle.inverse.proofs.rows.less_row.Given as goal

abbrev pub invariant-loop-j : goal.invariant-loop-j
invariant-loop-j l = Wrote (λ c. l.i * l.n + c) 0 l.j (λ c. less (cell l.n l.initial.x l.i c) (times l.f (cell l.n l.initial.x l.k c))) l.initial.x l.x
