-- The loop's invariant: the places passed hold the numbers of `from`.
use Rattle.steps.specs.Num.{at}
use Rattle.steps.specs.Wrote.{Wrote}
use Rattle.slices.proofs.inner.copy.Given as goal

abbrev pub invariant-loop-k : goal.invariant-loop-k
invariant-loop-k l = Wrote (λ k. k) 0 l.k (at l.from) l.initial.to l.to
