-- `stored_dot` meets its contract. The loop's invariant: the sum is that of the rows passed.
use Rattle.std.proofs.Common.{◌≡◌}
use Rattle.steps.specs.Num.{one, at, cell}
use Rattle.transpose.specs.Led.{led, along}
use Rattle.transpose.proofs.inner.Factor.stored_dot.Given as goal

abbrev pub invariant-loop-i : goal.invariant-loop-i
invariant-loop-i l = l.w ≡ along l.j l.i (led one (cell l.self.cols l.self.numbers.now) l.j) (at l.b)
