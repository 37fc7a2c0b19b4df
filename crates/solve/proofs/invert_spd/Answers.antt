-- `invert_spd` meets its contract: what its sizes tell that are not refused.
use Rattle.solve.specs.Sizes.{invert_fits}
use Rattle.solve.proofs.invert_spd.Goals as goal

pub invert_ready-requires : goal.invert_ready-requires
invert_ready-requires c = invert_fits c.invert_sizes.ensures c.in_ok-invert_sizes.was
