-- `add_ridge` meets its contract: a row more.
use mathlib.Core.Path.{◌≡◌}
use Prim.Native.Nat.{◌+◌, ◌<◌}
use native.Mathlib.Omega.{arith}
use Rattle.steps.specs.Table.{row_fits}
use Rattle.augment.proofs.Augment.{ridge_none, ridge_more}
use Rattle.augment.proofs.inner.add_ridge.Goals as goal

pub loop-c-init : goal.loop-c-init
loop-c-init c = ridge_none _ _ _ _

pub ridge_row-requires : goal.ridge_row-requires
ridge_row-requires c =
    let a = c.args in
    let h : a.n_rows + c.loop-c.c < a.n_rows + a.n_active = omega arith in
    omega (arith, row_fits (a.n_rows + a.n_active) a.n_active (a.n_rows + c.loop-c.c) h)

pub loop-c-preserved : goal.loop-c-preserved
loop-c-preserved c =
    let turn = c.loop-c in
    ridge_more _ _ _ turn.c _ turn.s _ turn.invariant c.ridge_row.ensures

pub returns : goal.returns
returns c =
    let end = c.loop-c in
    let all : end.c ≡ c.args.n_active = omega arith in
    rw all at end.invariant
