-- `sum_one` meets its contract: a row more.
use mathlib.Core.Path.{◌≡◌, ◌∙◌}
use Prim.Native.Nat.{◌+◌}
use native.Mathlib.Omega.{arith}
use Rattle.pairs.proofs.Changes.{in_page, in_square}
use Rattle.pairs.proofs.Sofar.{one_none, one_more}
use Rattle.pairs.proofs.kernel.sum_one.Goals as goal

pub cell-s-requires : goal.cell-s-requires
cell-s-requires c =
    omega (arith, in_square _ _ c.requires.0 (c.args.p + 1) (omega arith))

pub loop-i-init : goal.loop-i-init
loop-i-init c = c.cell-s.ensures ∙ one_none _ _ _ _ _

pub cell-requires : goal.cell-requires
cell-requires c = omega (arith, in_page c.args.page _ c.loop-i-test.true)

pub cell-requires-in-loop-i : goal.cell-requires-in-loop-i
cell-requires-in-loop-i c = omega (arith, in_page c.args.page _ c.loop-i-test.true)

pub loop-i-preserved : goal.loop-i-preserved
loop-i-preserved c =
    let turn = c.loop-i in
    one_more _ _ _ turn.i _ _ turn.invariant c.cell.ensures c.cell-in-loop-i.ensures

pub returns : goal.returns
returns c =
    let end = c.loop-i in
    let all : end.i ≡ c.args.page.rows = omega arith in
    rw all at end.invariant
