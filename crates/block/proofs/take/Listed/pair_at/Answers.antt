-- `pair_at` meets its contract: the table gives both term numbers.
use Rattle.block.specs.Listed.{listed_pair}
use Rattle.block.proofs.take.Listed.pair_at.Goals as goal

pub returns : goal.returns
unfolding listed_pair
returns c = rw (c.at_term.ensures, c.term_of-row.ensures, c.term_of-term_idx.ensures)
