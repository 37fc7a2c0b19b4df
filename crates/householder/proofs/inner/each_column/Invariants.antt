-- `each_column` meets its contract. The loop's invariant: the matrix has had the columns passed, and their betas stand in b.
-- one more column
use Rattle.std.specs.Prelude.{◌≡◌}
use Rattle.steps.specs.Table.{filled}
use Rattle.householder.specs.Qr.{after, beta}
use Rattle.householder.proofs.inner.each_column.Given as goal

abbrev pub invariant-loop-j : goal.invariant-loop-j
invariant-loop-j l = (l.a ≡ after l.m l.n l.initial.a l.j) × (l.b ≡ filled (beta l.m l.n l.initial.a) l.j l.initial.b)
