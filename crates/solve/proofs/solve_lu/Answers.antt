-- `solve_lu` meets its contract: what its sizes tell that are not refused.
use Rattle.solve.specs.Sizes.{square_fits}
use Rattle.solve.proofs.solve_lu.Goals as goal

pub lu-requires : goal.lu-requires
lu-requires c = let fits = square_fits c.square_sizes.ensures c.in_ok-square_sizes.was in (fits.square, fits.column)
