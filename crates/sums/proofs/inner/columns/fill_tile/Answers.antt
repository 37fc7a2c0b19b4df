-- `fill_tile` meets its contract: a number more.
use Prim.Native.Nat.{◌+◌, ◌*◌}
use native.Mathlib.Omega.{arith}
use Rattle.steps.specs.Wrote.{wrote_none, wrote_more, wrote_end}
use Rattle.places.specs.ThetaLaws.{column_fits}
use Rattle.sums.proofs.inner.columns.fill_tile.Goals as goal

pub loop-q-init : goal.loop-q-init
loop-q-init c = wrote_none _ _ _ _

pub at_column-x-requires : goal.at_column-x-requires
at_column-x-requires c = omega (arith, column_fits c.args.theta (c.args.j + c.loop-q.q) c.args.i 1 (omega arith) (omega arith))

pub loop-q-preserved : goal.loop-q-preserved
loop-q-preserved c =
    let turn = c.loop-q in
    let a = c.args in
    rw c.put.ensures
    (wrote_more (λ q. a.k * a.theta.cols + (a.j + q)) 0 turn.q _ a.page.now turn.page _ (omega arith) (omega arith) (λ q l l' e. omega arith) turn.invariant c.at_column-x.ensures)

pub returns : goal.returns
returns c = let end = c.loop-q in wrote_end _ 0 end.q _ _ _ _ end.invariant (omega arith) (omega arith)
