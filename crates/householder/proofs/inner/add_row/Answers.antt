-- `add_row` meets its contract. The loop's invariant: the sums of the columns passed have their new value.
use Rattle.std.specs.Prelude.{◌+◌}
use Rattle.std.proofs.Common.{arith}
use Rattle.steps.specs.Num.{plus, times, at}
use Rattle.steps.specs.Wrote.{wrote_none, wrote_turn, wrote_end}
use Rattle.householder.proofs.inner.add_row.Goals as goal

pub loop-c-init : goal.loop-c-init
loop-c-init c = wrote_none _ _ _ _

pub loop-c-preserved : goal.loop-c-preserved
loop-c-preserved c =
    let turn = c.loop-c in
    let args = c.args in
    wrote_turn (λ k. k) (λ k z. plus z (times args.x (at args.a.now (args.from + k)))) _ turn.c _ turn.w turn.auto.c (omega arith) (λ k h h' e. omega arith) turn.invariant

pub returns : goal.returns
returns c = let end = c.loop-c in wrote_end _ _ end.c _ _ _ _ end.invariant (omega arith) (omega arith)
