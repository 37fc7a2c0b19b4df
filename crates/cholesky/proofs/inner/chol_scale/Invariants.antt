-- `chol_scale` meets its contract. The loop's invariant: s is the largest of 1 and the magnitudes passed.
use Rattle.std.proofs.Common.{◌≡◌}
use Rattle.steps.specs.Num.{one, cell}
use Rattle.steps.specs.Loops.{loop}
use Rattle.float64.specs.Root.{abs_of, greater_of}
use Rattle.cholesky.proofs.inner.chol_scale.Given as goal

abbrev pub invariant-loop-k : goal.invariant-loop-k
invariant-loop-k l = l.s ≡ loop 0 l.k (λ i t. greater_of t (abs_of (cell l.a.n l.a.numbers.now i i))) one
