-- `chol_below` meets its contract. The loop's invariant: the rows passed are those of the rule's loop so far.
use Rattle.std.proofs.Common.{◌≡◌, ◌+◌, ◌*◌, set}
use Rattle.steps.specs.Num.{over}
use Rattle.steps.specs.Loops.{loop}
use Rattle.cholesky.specs.Cholesky.{reduced}
use Rattle.cholesky.proofs.inner.chol_below.Given as goal

abbrev pub invariant-loop-i : goal.invariant-loop-i
invariant-loop-i l = l.a ≡ loop (l.j + 1) l.i (λ r xs. set xs (r * l.n + l.j) (over (reduced l.n xs r l.j) l.d)) l.initial.a
