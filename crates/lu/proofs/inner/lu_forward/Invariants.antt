-- `lu_forward` meets its contract. The loop's invariant: the numbers passed are those of the rule's loop so far.
use Rattle.std.proofs.Common.{◌≡◌, set}
use Rattle.steps.specs.Num.{times, at, cell}
use Rattle.steps.specs.Loops.{loop}
use Rattle.steps.specs.Sums.{less_sum}
use Rattle.lu.proofs.inner.lu_forward.Given as goal

abbrev pub invariant-loop-i : goal.invariant-loop-i
invariant-loop-i l = l.b ≡ loop 0 l.i (λ r x. set x r (less_sum (at x r) 0 r (λ k. times (cell l.a.n l.a.numbers.now r k) (at x k)))) l.initial.b
