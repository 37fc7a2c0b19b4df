-- `chol_forward` meets its contract. The loop's invariant: the numbers passed are those of the rule's loop so far.
use Rattle.std.proofs.Common.{◌≡◌, set}
use Rattle.steps.specs.Loops.{loop}
use Rattle.cholesky.specs.Cholesky.{forward_at}
use Rattle.cholesky.proofs.inner.chol_forward.Given as goal

abbrev pub invariant-loop-i : goal.invariant-loop-i
invariant-loop-i l = l.b ≡ loop 0 l.i (λ r x. set x r (forward_at l.l.n l.l.numbers.now r x)) l.initial.b
