-- `over_row` meets its contract. The loop's invariant: the row's numbers in the columns passed have their new value.
use Rattle.std.proofs.Common.{◌+◌, ◌*◌}
use Rattle.steps.specs.Num.{over, at}
use Rattle.steps.specs.Wrote.{Wrote}
use Rattle.inverse.proofs.rows.over_row.Given as goal

abbrev pub invariant-loop-j : goal.invariant-loop-j
invariant-loop-j l = Wrote (λ c. l.i * l.n + c) 0 l.j (λ c. over (at l.initial.x (l.i * l.n + c)) l.d) l.initial.x l.x
