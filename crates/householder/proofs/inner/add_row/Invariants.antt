-- `add_row` meets its contract. The loop's invariant: the sums of the columns passed have their new value.
use Rattle.std.specs.Prelude.{◌+◌}
use Rattle.steps.specs.Num.{plus, times, at}
use Rattle.steps.specs.Wrote.{Wrote}
use Rattle.householder.proofs.inner.add_row.Given as goal

abbrev pub invariant-loop-c : goal.invariant-loop-c
invariant-loop-c l = Wrote (λ k. k) l.j l.c (λ k. plus (at l.initial.w k) (times l.x (at l.a (l.from + k)))) l.initial.w l.w
