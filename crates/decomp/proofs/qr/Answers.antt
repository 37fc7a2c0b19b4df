-- `qr` meets its contract: refused by its sizes, or what the work left.
use Rattle.decomp.specs.Sizes.{qr_fits}
use Rattle.decomp.proofs.qr.Goals as goal

pub qr_ready-requires : goal.qr_ready-requires
qr_ready-requires c = qr_fits c.qr_sizes.ensures c.in_ok-qr_sizes.was
