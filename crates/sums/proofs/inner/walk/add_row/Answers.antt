-- `add_row` meets its contract: a sum more.
use native.Mathlib.Omega.{arith}
use Rattle.steps.specs.Num.{plus, times, cell}
use Rattle.steps.specs.Wrote.{wrote_none, wrote_turn, wrote_end}
use Rattle.sums.proofs.inner.walk.add_row.Goals as goal

pub loop-q-init : goal.loop-q-init
loop-q-init c = wrote_none _ _ _ _

pub loop-q-preserved : goal.loop-q-preserved
loop-q-preserved c =
    let turn = c.loop-q in
    let a = c.args in
    rw c.at_term.ensures
    (wrote_turn (λ q. q) (λ q s. plus s (times a.x (cell a.n_cols a.theta.now a.i q)))
    0 turn.q a.sums.now turn.sums (omega arith) (omega arith) (λ q h h' e. omega arith) turn.invariant)

pub returns : goal.returns
returns c = let end = c.loop-q in wrote_end _ 0 end.q _ _ _ _ end.invariant (omega arith) (omega arith)
