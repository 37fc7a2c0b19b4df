-- `solve_normal_equations` meets its contract: what its sizes tell that are not refused.
use Rattle.solve.specs.Sizes.{normal_fits}
use Rattle.solve.proofs.solve_normal_equations.Goals as goal

pub normal_ready-requires : goal.normal_ready-requires
normal_ready-requires c = normal_fits c.normal_sizes.ensures c.in_ok-normal_sizes.was
