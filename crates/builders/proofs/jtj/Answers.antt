-- `jtj` meets its contract: refused by its sizes, else the pair sums, damped.
use Rattle.std.proofs.Common.{sym, ◌∙◌}
use Rattle.places.specs.Stored.{stored}
use Rattle.sums.specs.ProductLaws.{damped_table}
use Rattle.builders.specs.Sizes.{jtj_fits}
use Rattle.builders.proofs.jtj.Goals as goal

pub invariant_of-theta : goal.invariant_of-theta
invariant_of-theta c =
    let matrix = (jtj_fits c.jtj_sizes.ensures c.in_ok-jtj_sizes.was).0 in
    record { few_columns = matrix.few_columns; whole = matrix.cells }

pub jtj_sums-requires : goal.jtj_sums-requires
jtj_sums-requires c = (jtj_fits c.jtj_sizes.ensures c.in_ok-jtj_sizes.was).1

pub damp-requires : goal.damp-requires
damp-requires c = c.jtj_sums.auto.out ∙ (jtj_fits c.jtj_sizes.ensures c.in_ok-jtj_sizes.was).1

pub returns : goal.returns
unfolding stored
returns c =
    record {
      answer = sym c.in_ok-jtj_sizes.was ∙ c.jtj_sizes.ensures;
      matrix = rw (c.damp.ensures, c.jtj_sums.ensures) (damped_table _ _ _);
    }
