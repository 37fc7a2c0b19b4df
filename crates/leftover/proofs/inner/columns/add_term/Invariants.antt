-- The sums passed have their products added, the others are as they were.
use Prim.Native.Nat.{◌+◌}
use Rattle.steps.specs.Num.{plus, times, at, cell}
use Rattle.steps.specs.Wrote.{Wrote}
use Rattle.leftover.proofs.inner.columns.add_term.Given as goal

abbrev pub invariant-loop-m : goal.invariant-loop-m
invariant-loop-m l =
    Wrote (λ k. k) 0 l.m (λ k. plus (at l.initial.sums k) (times (cell l.theta.rows l.theta.numbers.now l.term_idx.0 (l.i + k)) l.x)) l.initial.sums l.sums
