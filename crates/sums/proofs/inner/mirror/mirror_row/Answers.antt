-- `mirror_row` meets its contract: both places of a turn are within the matrix.
use mathlib.Core.Path.{◌∙◌}
use mathlib.Core.Logic.{inl}
use Prim.Native.Nat.{◌+◌, ◌*◌, ◌<◌}
use native.Mathlib.Omega.{arith}
use lib.Arith.{digits_lt}
use lib.ListN.{length}
use Rattle.steps.specs.Num.{cell}
use Rattle.steps.specs.Rows.{rows_apart}
use Rattle.steps.specs.Wrote.{wrote_none, wrote_more, wrote_end}
use Rattle.sums.proofs.inner.mirror.mirror_row.Goals.{At-loop-q}
use Rattle.sums.proofs.inner.mirror.mirror_row.Goals as goal

pub loop-q-init : goal.loop-q-init
loop-q-init c = wrote_none _ _ _ _

inside : (c : At-loop-q) → let a = c.args in let n = a.n_cols in let p = a.p in let q = c.loop-q.q in
    q < p → (q * n + p < length c.loop-q.out) × (p * n + q < length c.loop-q.out)
inside c l =
    let long = c.loop-q.auto.out ∙ c.requires.0 in
    let above : c.loop-q.q < c.args.n_cols = omega arith in
    (rw long (digits_lt above c.requires.1), rw long (digits_lt c.requires.1 above))

pub cell-x-requires : goal.cell-x-requires
cell-x-requires c = omega (arith, inside (goal.at.cell-x-requires c).At-loop-q c.loop-q-test.true)

pub put-requires : goal.put-requires
put-requires c =
    omega (arith, inside (goal.at.put-requires c).At-loop-q c.loop-q-test.true)

pub loop-q-preserved : goal.loop-q-preserved
loop-q-preserved c =
    let turn = c.loop-q in
    let n = c.args.n_cols in
    let p = c.args.p in
    let s = c.args.out.now in
    let left : turn.q < p = omega arith in
    let above : turn.q < n = omega arith in
    rw c.put.ensures
    (wrote_more (λ k. p * n + k) 0 turn.q (λ k. cell n s k p) s turn.out _
    (omega arith) (omega (arith, c.requires.0, digits_lt c.requires.1 above)) (λ k h h' e. omega arith) turn.invariant
    (c.cell-x.ensures ∙ turn.invariant.rest (turn.q * n + p) (λ k h h' e. rows_apart n turn.q p p k (inl left) c.requires.1 (omega arith) e)))

pub returns : goal.returns
returns c = let end = c.loop-q in wrote_end _ 0 end.q _ _ _ _ end.invariant (omega arith) (omega arith)
