-- `back_row` meets its contract. The loop's invariant: the row has lost its products with the rows passed.
use Rattle.std.proofs.Common.{arith}
use Rattle.cholesky.specs.Cholesky.{back_at}
use Rattle.inverse.proofs.Lost.{lost_none, lost_more, lost_over}
use Rattle.inverse.proofs.rows.back_row.Goals as goal

pub loop-k-init : goal.loop-k-init
loop-k-init c = lost_none _ _ _ _ _ c.requires.1

pub loop-k-preserved : goal.loop-k-preserved
loop-k-preserved c =
    let turn = c.loop-k in
    lost_more _ _ _ _ _ turn.k turn.x _ turn.auto.k c.loop-k-test.true (λ e. omega (arith, e)) turn.invariant (rw c.at.ensures at c.less_row.ensures)

pub returns : goal.returns
unfolding back_at
returns c = lost_over _ _ _ _ _ c.loop-k.k _ _ _ _ c.requires.0 (omega arith) (omega arith) c.loop-k.invariant (rw c.at-2.ensures at c.over_row.ensures)
