-- `take_targets` meets its contract: a row more.
use mathlib.Core.Path.{◌≡◌, refl}
use native.Mathlib.Omega.{arith}
use Rattle.steps.specs.Table.{row_fits}
use Rattle.sums.proofs.Walks.{targets_none, targets_more}
use Rattle.sums.proofs.inner.walk.take_targets.Goals as goal

pub loop-k-init : goal.loop-k-init
loop-k-init c = targets_none _ _ _ _ _

pub add_row-requires : goal.add_row-requires
add_row-requires c = (omega (arith, c.requires.0, row_fits c.args.h c.args.n_cols c.loop-k.k c.loop-k-test.true), omega (arith, c.requires.2))

pub loop-k-preserved : goal.loop-k-preserved
loop-k-preserved c =
    let turn = c.loop-k in
    targets_more _ _ _ _ _ turn.k _ _ _ c.add_row.ensures refl turn.invariant

pub returns : goal.returns
returns c =
    let all : c.loop-k.k ≡ c.args.h = omega arith in
    rw all at c.loop-k.invariant
