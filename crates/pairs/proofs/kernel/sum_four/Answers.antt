-- `sum_four` meets its contract: a row more.
use mathlib.Core.Path.{◌≡◌}
use native.Mathlib.Omega.{arith}
use Rattle.pairs.proofs.Changes.{in_page, in_square, put_grown}
use Rattle.pairs.proofs.Sofar.{four_none, four_more}
use Rattle.pairs.proofs.kernel.sum_four.Goals as goal

pub four_at-s-requires : goal.four_at-s-requires
four_at-s-requires c = (in_square _ _ c.requires.0 _ (omega arith), c.requires.2)

pub loop-i-init : goal.loop-i-init
loop-i-init c = four_none _ _ _ _ _ _ c.four_at-s.ensures

pub four_at-y-requires : goal.four_at-y-requires
four_at-y-requires c = (in_page c.args.page _ c.loop-i-test.true, c.requires.2)

pub cell-requires : goal.cell-requires
cell-requires c = omega (arith, in_page c.args.page _ c.loop-i-test.true)

pub loop-i-preserved : goal.loop-i-preserved
loop-i-preserved c =
    let turn = c.loop-i in
    four_more _ _ _ turn.i _ _ _ _ _ _ turn.invariant c.cell.ensures c.four_at-y.ensures c.four_more-s.ensures

pub put_four-requires : goal.put_four-requires
put_four-requires c = (in_square _ _ c.requires.0 _ (omega arith), c.requires.2)

pub returns : goal.returns
returns c =
    let all : c.loop-i.i ≡ c.args.page.rows = omega arith in
    put_grown _ _ _ _ _ _ _ _ _ (c.put_four.ensures.put _ (rw all at c.loop-i.invariant))
