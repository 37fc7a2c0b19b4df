-- `take_block` meets its contract: the rows of the block, damped.
use Rattle.sums.specs.ProductLaws.{damped_table}
use Rattle.block.proofs.take.Listed.take_block.Goals as goal

pub returns : goal.returns
returns c = rw (c.damp.ensures, c.take_rows.ensures) (damped_table _ _ _)
