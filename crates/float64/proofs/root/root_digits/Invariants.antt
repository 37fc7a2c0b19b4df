-- `float64::root::root_digits` meets its contract. The loop's invariant is `Turn`. Assumes nothing.
use Rattle.float64.proofs.Turns.{Turn}
use Rattle.float64.proofs.root.root_digits.Given as goal

abbrev pub invariant-loop : goal.invariant-loop
invariant-loop l = Turn l.s l.rest l.q l.rem l.counter
