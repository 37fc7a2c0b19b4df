-- `edge` meets its contract: a row more.
use mathlib.Core.Path.{◌≡◌, refl}
use native.Mathlib.Omega.{arith}
use Rattle.pairs.proofs.Changes.{no_row, beside, below, from_zero}
use Rattle.pairs.proofs.inner.edge.Goals as goal

pub loop-p-init : goal.loop-p-init
loop-p-init c = no_row _ _ _ _ _ _ _ (omega arith)

pub loop-p-preserved : goal.loop-p-preserved
loop-p-preserved c =
    let turn = c.loop-p in
    below _ _ _ turn.p _ _ _ _ _ turn.out _ (omega arith) (omega arith) refl turn.invariant
    (from_zero _ _ _ _ _ _ _ (beside _ _ _ _ _ _ _ _ _ _ _ (omega arith) (omega arith) refl c.ones.ensures c.fours.ensures))

pub returns : goal.returns
returns c =
    let end = c.loop-p in
    let all : end.p ≡ c.args.k = omega arith in
    rw all at end.invariant
