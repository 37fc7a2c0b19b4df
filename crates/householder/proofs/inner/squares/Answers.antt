-- `squares` meets its contract. The loop's invariant: the sum is that of the rows passed.
use Rattle.std.proofs.Common.{refl, sym, arith}
use Rattle.steps.specs.Sums.{sum_none, sum_more, sum_end}
use Rattle.transpose.specs.Led.{along}
use Rattle.householder.proofs.inner.squares.Goals as goal

pub loop-i-init : goal.loop-i-init
unfolding along
loop-i-init c = sym (sum_none _ _ _)

pub loop-i-preserved : goal.loop-i-preserved
unfolding along
loop-i-preserved c =
    let turn = c.loop-i in
    rw c.led_at-v.ensures (sum_more _ _ turn.i _ turn.auto.i turn.invariant refl)

pub returns : goal.returns
unfolding along
returns c = let end = c.loop-i in sum_end _ _ end.i _ _ end.invariant (omega arith) (omega arith)
