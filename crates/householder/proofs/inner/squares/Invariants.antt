-- `squares` meets its contract. The loop's invariant: the sum is that of the rows passed.
use Rattle.std.specs.Prelude.{◌≡◌}
use Rattle.steps.specs.Num.{cell}
use Rattle.transpose.specs.Led.{led, along}
use Rattle.householder.proofs.inner.squares.Given as goal

abbrev pub invariant-loop-i : goal.invariant-loop-i
invariant-loop-i l = l.s ≡ along l.j l.i (led l.x (cell l.n l.a) l.j) (led l.x (cell l.n l.a) l.j)
