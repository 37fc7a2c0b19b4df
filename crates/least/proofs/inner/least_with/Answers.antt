-- `least_with` meets its contract: its three calls are the three steps of `least`.
use Rattle.least.proofs.Back.{least_is}
use Rattle.least.proofs.inner.least_with.Goals as goal

pub returns : goal.returns
returns c = least_is _ _ _ _ _ _ _ _ c.factor.ensures.0 c.factor.ensures.1 c.apply_qt.ensures c.back_substitute.ensures
