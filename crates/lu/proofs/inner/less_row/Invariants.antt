-- `less_row` meets its contract. The loop's invariant: the columns passed are those of the rule's loop so far.
use Rattle.std.proofs.Common.{◌≡◌, ◌+◌, ◌*◌, set}
use Rattle.steps.specs.Num.{less, times, cell}
use Rattle.steps.specs.Loops.{loop}
use Rattle.lu.proofs.inner.less_row.Given as goal

abbrev pub invariant-loop-j : goal.invariant-loop-j
invariant-loop-j l = l.a ≡ loop (l.k + 1) l.j (λ c xs. set xs (l.i * l.n + c) (less (cell l.n xs l.i c) (times l.factor (cell l.n xs l.k c)))) l.initial.a
