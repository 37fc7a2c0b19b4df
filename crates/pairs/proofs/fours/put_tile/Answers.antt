-- `put_tile` meets its contract: four rows, one after another.
use Rattle.pairs.proofs.Puts.{tile_put}
use Rattle.pairs.proofs.fours.put_tile.Goals as goal

pub returns : goal.returns
returns c =
    tile_put _ _ _ _ _ _ _ _ _ c.put_four.ensures c.put_four-2.ensures c.put_four-3.ensures c.put_four-4.ensures
