-- `jtr` meets its contract: refused by its sizes, else the target products.
use Rattle.builders.specs.Sizes.{jtr_fits}
use Rattle.builders.proofs.jtr.Goals as goal

pub jtr_sums-requires : goal.jtr_sums-requires
jtr_sums-requires c = jtr_fits c.jtr_sizes.ensures c.in_ok-jtr_sizes.was
