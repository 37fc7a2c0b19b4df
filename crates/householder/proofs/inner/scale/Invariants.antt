-- `scale` meets its contract. The loop's invariant: the numbers of the columns passed have their new value.
use Rattle.steps.specs.Num.{times, at}
use Rattle.steps.specs.Wrote.{Wrote}
use Rattle.householder.proofs.inner.scale.Given as goal

abbrev pub invariant-loop-c : goal.invariant-loop-c
invariant-loop-c l = Wrote (λ k. k) l.j l.c (λ k. times l.x (at l.initial.w k)) l.initial.w l.w
