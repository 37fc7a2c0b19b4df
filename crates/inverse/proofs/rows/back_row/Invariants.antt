-- `back_row` meets its contract. The loop's invariant: the row has lost its products with the rows passed.
use Rattle.std.proofs.Common.{◌+◌}
use Rattle.steps.specs.Num.{cell}
use Rattle.inverse.proofs.Lost.{Lost}
use Rattle.inverse.proofs.rows.back_row.Given as goal

abbrev pub invariant-loop-k : goal.invariant-loop-k
invariant-loop-k l = Lost l.l.n l.i (λ r. cell l.l.n l.l.numbers.now r l.i) (l.i + 1) l.initial.x l.k l.x
