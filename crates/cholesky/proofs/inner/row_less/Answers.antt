-- `row_less` meets its contract. The loop's invariant: s is a(i,j) less the products of the columns passed.
use Rattle.std.proofs.Common.{sym, ◌∙◌, arith}
use Rattle.steps.specs.Sums.{less_sum_none, less_sum_more, less_sum_end}
use Rattle.cholesky.specs.Cholesky.{reduced}
use Rattle.cholesky.proofs.inner.row_less.Goals as goal

pub loop-k-init : goal.loop-k-init
loop-k-init c = c.at-s.ensures ∙ sym (less_sum_none _ _ _)

pub loop-k-preserved : goal.loop-k-preserved
loop-k-preserved c = let turn = c.loop-k in less_sum_more _ 0 turn.k _ (omega arith) turn.invariant (rw (c.at.ensures, c.at-in-loop-k.ensures))

pub returns : goal.returns
unfolding reduced
returns c = let turn = c.loop-k in less_sum_end _ 0 turn.k _ _ turn.invariant (omega arith) (omega arith)
