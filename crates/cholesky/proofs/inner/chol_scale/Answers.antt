-- `chol_scale` meets its contract. The loop's invariant: s is the largest of 1 and the magnitudes passed.
use Rattle.std.proofs.Common.{sym, arith}
use Rattle.steps.specs.Num.{one}
use Rattle.steps.specs.Loops.{loop_none, loop_more, loop_end}
use Rattle.cholesky.specs.Cholesky.{scale}
use Rattle.cholesky.proofs.inner.chol_scale.Goals as goal

pub loop-k-init : goal.loop-k-init
loop-k-init c = sym (loop_none 0 _ one)

pub loop-k-preserved : goal.loop-k-preserved
loop-k-preserved c = let turn = c.loop-k in loop_more 0 turn.k _ one (omega arith) turn.invariant (rw (c.greater-s.ensures, c.abs.ensures, c.at.ensures))

pub returns : goal.returns
unfolding scale
returns c = let turn = c.loop-k in loop_end 0 turn.k _ _ one turn.invariant (omega arith) (omega arith)
