-- `turn_column` meets its contract. The loop's invariant: the rows passed have lost their part.
use Rattle.std.proofs.Common.{◌≡◌, set}
use Rattle.steps.specs.Num.{less, times, one, at, cell}
use Rattle.steps.specs.Loops.{loop}
use Rattle.transpose.specs.Led.{led}
use Rattle.transpose.proofs.inner.Factor.turn_column.Given as goal

abbrev pub invariant-loop-i : goal.invariant-loop-i
invariant-loop-i l = l.b ≡ loop l.j l.i (λ i x. set x i (less (at x i) (times l.t (led one (cell l.self.cols l.self.numbers.now) l.j i)))) l.initial.b
