-- `apply_qt` meets its contract. The loop's invariant: the right-hand side is what the columns passed make of it.
use Rattle.std.proofs.Common.{◌≡◌}
use Rattle.steps.specs.Num.{at}
use Rattle.steps.specs.Loops.{loop}
use Rattle.transpose.specs.Transpose.{qt_column}
use Rattle.transpose.proofs.inner.Factor.apply_qt.Given as goal

abbrev pub invariant-loop-j : goal.invariant-loop-j
invariant-loop-j l = l.b ≡ loop 0 l.j (λ i. qt_column l.self.rows l.self.cols l.self.numbers.now (at l.betas i) i) l.initial.b
