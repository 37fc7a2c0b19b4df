-- `stored_dot` meets its contract. The loop's invariant: the sum is that of the rows passed.
use Rattle.std.proofs.Common.{refl, sym, arith}
use Rattle.steps.specs.Sums.{sum_none, sum_more, sum_end}
use Rattle.transpose.specs.Led.{along}
use Rattle.transpose.proofs.inner.Factor.stored_dot.Goals as goal

pub loop-i-init : goal.loop-i-init
unfolding along
loop-i-init c = sym (sum_none _ _ _)

pub loop-i-preserved : goal.loop-i-preserved
unfolding along
loop-i-preserved c = let turn = c.loop-i in rw c.led_at-v.ensures (sum_more _ _ turn.i _ turn.auto.i turn.invariant refl)

pub returns : goal.returns
unfolding along
returns c = sum_end _ _ c.loop-i.i _ _ c.loop-i.invariant (omega arith) (omega arith)
