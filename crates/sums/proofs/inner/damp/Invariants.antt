-- The diagonal numbers passed are damped, all else is as it was.
use Prim.Native.Nat.{◌+◌, ◌*◌}
use Rattle.steps.specs.Num.{at}
use Rattle.steps.specs.Wrote.{Wrote}
use Rattle.sums.specs.Inner.{damps}
use Rattle.sums.proofs.inner.damp.Given as goal

abbrev pub invariant-loop-p : goal.invariant-loop-p
invariant-loop-p l = Wrote (λ c. c * l.k + c) 0 l.p (λ c. damps l.damping (at l.initial.out (c * l.k + c))) l.initial.out l.out
