-- `column_sum` meets its contract. The loop's invariant: s is b(i) less the products of the rows passed.
use Rattle.std.proofs.Common.{sym, arith}
use Rattle.steps.specs.Sums.{less_sum_none, less_sum_more, less_sum_end}
use Rattle.cholesky.proofs.inner.column_sum.Goals as goal

pub loop-k-init : goal.loop-k-init
loop-k-init c = sym (less_sum_none _ _ _)

pub loop-k-preserved : goal.loop-k-preserved
loop-k-preserved c = let turn = c.loop-k in less_sum_more _ _ turn.k _ turn.auto.k turn.invariant (rw c.at.ensures)

pub returns : goal.returns
returns c = let turn = c.loop-k in less_sum_end _ _ turn.k _ _ turn.invariant (omega arith) (omega arith)
