-- `add_term` meets its contract: a sum more.
use Prim.Native.Nat.{◌+◌}
use native.Mathlib.Omega.{arith}
use Rattle.steps.specs.Num.{plus, times, cell}
use Rattle.steps.specs.Wrote.{wrote_none, wrote_turn, wrote_end}
use Rattle.places.specs.ThetaLaws.{column_fits}
use Rattle.leftover.proofs.inner.columns.add_term.Goals as goal

pub loop-m-init : goal.loop-m-init
loop-m-init c = wrote_none _ _ _ _

pub at_column-requires : goal.at_column-requires
at_column-requires c = omega (arith, column_fits c.args.theta c.args.term_idx.0 c.args.i _ c.requires.0 c.requires.1)

pub loop-m-preserved : goal.loop-m-preserved
loop-m-preserved c =
    let turn = c.loop-m in
    let a = c.args in
    rw c.at_column.ensures
    (wrote_turn (λ m. m) (λ m s. plus s (times (cell a.theta.rows a.theta.numbers.now a.term_idx.0 (a.i + m)) a.x))
    0 turn.m a.sums.now turn.sums (omega arith) (omega arith) (λ m h h' e. omega arith) turn.invariant)

pub returns : goal.returns
returns c = let end = c.loop-m in wrote_end _ 0 end.m _ _ _ _ end.invariant (omega arith) (omega arith)
