-- `read_part` reads a frame after another. The loop's invariant: the first i numbers are the first i of the part.
use Rattle.std.proofs.Common.{arith}
use Rattle.steps.specs.Table.{filled_none, table}
use Rattle.reader.proofs.NumberLaws.{place_in, part_there, part_has, fill_more, fill_end}
use Rattle.reader.proofs.inner.numbers.read_part.Goals as goal

pub loop-i-init : goal.loop-i-init
loop-i-init c = filled_none _ _

pub number-requires : goal.number-requires
number-requires c =
    let place = place_in _ _ _ c.loop-i-test.true in
    (part_there c.requires.0 _ _ place.0 place.1, part_has c.requires.0 _ _ place.0 place.1)

pub loop-i-preserved : goal.loop-i-preserved
loop-i-preserved c = fill_more _ _ _ _ _ (omega arith) c.loop-i.invariant c.number.ensures

pub returns : goal.returns
unfolding table
returns c = fill_end _ _ _ _ _ c.loop-i.invariant (omega arith) (omega arith)
