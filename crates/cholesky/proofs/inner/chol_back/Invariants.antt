-- `chol_back` meets its contract. The loop's invariant: what is left from row i on gives the whole answer.
use Rattle.std.proofs.Common.{◌≡◌, set}
use Rattle.steps.specs.Loops.{down_from}
use Rattle.cholesky.specs.Cholesky.{back_at, chol_back}
use Rattle.cholesky.proofs.inner.chol_back.Given as goal

abbrev pub invariant-loop-i : goal.invariant-loop-i
invariant-loop-i l = down_from l.i (λ r x. set x r (back_at l.l.n l.l.numbers.now r x)) l.b ≡ chol_back l.l.n l.l.numbers.now l.initial.b
