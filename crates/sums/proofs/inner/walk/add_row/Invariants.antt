-- The sums of the places passed have their products added, the others are as they were.
use Rattle.steps.specs.Num.{plus, times, at, cell}
use Rattle.steps.specs.Wrote.{Wrote}
use Rattle.sums.proofs.inner.walk.add_row.Given as goal

abbrev pub invariant-loop-q : goal.invariant-loop-q
invariant-loop-q l =
    Wrote (λ q. q) 0 l.q (λ q. plus (at l.initial.sums q) (times l.x (cell l.n_cols l.theta l.i q))) l.initial.sums l.sums
