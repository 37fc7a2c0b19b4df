-- `forward_row` meets its contract. The loop's invariant: the row has lost its products with the rows passed.
use Rattle.steps.specs.Num.{cell}
use Rattle.inverse.proofs.Lost.{Lost}
use Rattle.inverse.proofs.rows.forward_row.Given as goal

abbrev pub invariant-loop-k : goal.invariant-loop-k
invariant-loop-k l = Lost l.l.n l.i (cell l.l.n l.l.numbers.now l.i) 0 l.initial.x l.k l.x
