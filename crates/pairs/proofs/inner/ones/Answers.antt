-- `ones` meets its contract: a column more.
use mathlib.Core.Path.{◌≡◌, refl, ◌∙◌}
use Prim.Native.Nat.{◌+◌}
use native.Mathlib.Omega.{arith}
use Rattle.pairs.specs.Grown.{with_rows}
use Rattle.pairs.proofs.Changes.{in_square, no_column, beside, one_entry}
use Rattle.pairs.proofs.inner.ones.Goals as goal

pub loop-q-init : goal.loop-q-init
loop-q-init c = no_column _ _ _ _ _ _ _ (omega arith)

pub put-requires : goal.put-requires
put-requires c =
    omega (arith, in_square _ _ (c.loop-q.auto.out ∙ c.requires.0) (c.args.p + 1) (omega arith))

pub loop-q-preserved : goal.loop-q-preserved
unfolding with_rows
loop-q-preserved c =
    let turn = c.loop-q in
    let room = in_square _ _ (turn.auto.out ∙ c.requires.0) (c.args.p + 1) (omega arith) in
    rw c.put.ensures
    (beside _ _ _ _ _ turn.q _ _ _ turn.out _ (omega arith) (omega arith) refl turn.invariant
    (one_entry _ _ _ turn.q turn.out _ room (omega arith) c.sum_one-x.ensures))

pub returns : goal.returns
returns c =
    let end = c.loop-q in
    let all : end.q ≡ c.args.k = omega arith in
    rw all at end.invariant
