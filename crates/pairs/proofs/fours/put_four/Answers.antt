-- `put_four` meets its contract: its four stores, one after another.
use Rattle.pairs.proofs.Puts.{four_put}
use Rattle.pairs.proofs.fours.put_four.Goals as goal

pub returns : goal.returns
returns c =
    let pre = c.requires in
    rw (c.put-4.ensures, c.put-3.ensures, c.put-2.ensures, c.put.ensures) (four_put _ _ _ _ _ pre.0 pre.1)
