-- `forward_rows` meets its contract. The loop's invariant: each column is that of the rule's loop so far.
use Rattle.std.proofs.Common.{set}
use Rattle.steps.specs.Loops.{loop}
use Rattle.cholesky.specs.Cholesky.{forward_at}
use Rattle.inverse.specs.ByColumns.{down_column, ByColumns}
use Rattle.inverse.proofs.rows.forward_rows.Given as goal

abbrev pub invariant-loop-i : goal.invariant-loop-i
invariant-loop-i l = let n = l.l.n in ByColumns n (λ j. loop 0 l.i (λ r b. set b r (forward_at n l.l.numbers.now r b)) (down_column n l.initial.x j)) l.x
