-- `less_row` meets its contract. The loop's invariant: the row's numbers in the columns passed have their new value.
use Rattle.std.specs.Prelude.{◌+◌}
use Rattle.steps.specs.Num.{less, times, at}
use Rattle.steps.specs.Wrote.{Wrote}
use Rattle.householder.proofs.inner.less_row.Given as goal

abbrev pub invariant-loop-c : goal.invariant-loop-c
invariant-loop-c l = Wrote (λ k. l.from + k) l.lo l.c (λ k. less (at l.initial.a (l.from + k)) (times (at l.t k) l.x)) l.initial.a l.a
