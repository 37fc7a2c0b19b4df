-- `mirror` meets its contract: a row more.
use mathlib.Core.Path.{◌≡◌}
use native.Mathlib.Omega.{arith}
use Rattle.steps.specs.Rows.{rows_none}
use Rattle.sums.proofs.Mirrored.{mirror_more}
use Rattle.sums.proofs.inner.mirror.mirror.Goals as goal

pub loop-p-init : goal.loop-p-init
loop-p-init c = rows_none _ _ _ _

pub loop-p-preserved : goal.loop-p-preserved
loop-p-preserved c =
    let turn = c.loop-p in
    mirror_more _ _ turn.p _ _ c.loop-p-test.true turn.invariant c.mirror_row.ensures

pub returns : goal.returns
returns c =
    let end = c.loop-p in
    let all : end.p ≡ c.args.n_cols = omega arith in
    rw all at end.invariant
