-- `cholesky_factor` meets its contract. The loop's invariant: the columns before j went as the rule says, and left the matrix as it is.
use Rattle.std.proofs.Common.{◌≡◌}
use Rattle.steps.specs.Loops.{going, way}
use Rattle.cholesky.specs.Cholesky.{chol_column}
use Rattle.cholesky.proofs.inner.cholesky_factor.Given as goal

abbrev pub invariant-loop-j : goal.invariant-loop-j
invariant-loop-j l = way (chol_column l.n l.bound) 0 l.j l.initial.a ≡ going l.a
