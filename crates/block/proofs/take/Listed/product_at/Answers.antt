-- `product_at` meets its contract: the table gives the term number.
use Rattle.block.specs.Listed.{listed_product}
use Rattle.block.proofs.take.Listed.product_at.Goals as goal

pub returns : goal.returns
unfolding listed_product
returns c = rw (c.at_term.ensures, c.term_of-term_idx.ensures)
