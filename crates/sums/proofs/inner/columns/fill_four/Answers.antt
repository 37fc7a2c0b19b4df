-- `fill_four` meets its contract: a row more.
use native.Mathlib.Omega.{arith}
use Rattle.steps.specs.Table.{row_fits}
use Rattle.places.specs.Stored.{stored}
use Rattle.sums.specs.Partly.{partly_none, partly_more, partly_end}
use Rattle.sums.proofs.inner.columns.fill_four.Goals as goal

pub loop-k-init : goal.loop-k-init
loop-k-init c = partly_none _ _ _ _ _ c.requires.2 _ c.requires.3

pub fill_tile-requires : goal.fill_tile-requires
fill_tile-requires c = (c.requires.2, omega arith, omega (arith, row_fits c.args.h c.args.theta.cols c.loop-k.k c.loop-k-test.true))

pub loop-k-preserved : goal.loop-k-preserved
unfolding stored
loop-k-preserved c =
    let turn = c.loop-k in
    partly_more _ _ _ _ _ c.requires.2 turn.k turn.page _ c.loop-k-test.true c.fill_tile.ensures turn.invariant

pub returns : goal.returns
returns c = let end = c.loop-k in partly_end _ _ _ _ _ c.requires.2 end.k _ (omega arith) end.invariant
