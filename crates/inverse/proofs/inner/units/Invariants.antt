-- `units` meets its contract. The loop's invariant: the diagonal numbers passed are 1.0, all else is +0.0.
use Rattle.std.proofs.Common.{◌+◌, ◌*◌}
use Rattle.steps.specs.Num.{one}
use Rattle.steps.specs.Wrote.{Wrote}
use Rattle.inverse.proofs.inner.units.Given as goal

abbrev pub invariant-loop-i : goal.invariant-loop-i
invariant-loop-i l = Wrote (λ r. r * l.n + r) 0 l.i (λ r. one) l.initial.x l.x
