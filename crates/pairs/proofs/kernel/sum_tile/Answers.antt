-- `sum_tile` meets its contract: a row more.
use mathlib.Core.Path.{◌≡◌}
use native.Mathlib.Omega.{arith}
use Rattle.pairs.proofs.Changes.{in_page, in_square, put_grown}
use Rattle.pairs.proofs.Sofar.{tile_none, tile_more}
use Rattle.pairs.proofs.kernel.sum_tile.Goals as goal

pub tile_at-s-requires : goal.tile_at-s-requires
tile_at-s-requires c = (in_square _ _ c.requires.0 _ c.requires.1, c.requires.1, c.requires.2)

pub loop-i-init : goal.loop-i-init
loop-i-init c = tile_none _ _ _ _ _ _ c.tile_at-s.ensures

pub four_at-x-requires : goal.four_at-x-requires
four_at-x-requires c = (in_page c.args.page _ c.loop-i-test.true, c.requires.1)

pub four_at-y-requires : goal.four_at-y-requires
four_at-y-requires c = (in_page c.args.page _ c.loop-i-test.true, c.requires.2)

pub loop-i-preserved : goal.loop-i-preserved
loop-i-preserved c =
    let turn = c.loop-i in
    tile_more _ _ _ turn.i _ _ _ _ _ _ turn.invariant c.four_at-x.ensures c.four_at-y.ensures c.tile_more-s.ensures

pub put_tile-requires : goal.put_tile-requires
put_tile-requires c = (in_square _ _ c.requires.0 _ c.requires.1, c.requires.1, c.requires.2)

pub returns : goal.returns
returns c =
    let all : c.loop-i.i ≡ c.args.page.rows = omega arith in
    put_grown _ _ _ _ _ _ _ _ _ (c.put_tile.ensures.put _ (rw all at c.loop-i.invariant))
