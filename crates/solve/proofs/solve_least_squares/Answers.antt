-- `solve_least_squares` meets its contract: what its sizes tell that are not refused.
use Rattle.solve.specs.Sizes.{least_fits}
use Rattle.solve.proofs.solve_least_squares.Goals as goal

pub least_ready-requires : goal.least_ready-requires
least_ready-requires c = least_fits c.least_sizes.ensures c.in_ok-least_sizes.was
