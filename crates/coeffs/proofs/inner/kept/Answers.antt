-- `kept` meets its contract: its test is `keeps`.
use mathlib.Core.Path.{ap}
use lib.Ieee.{le}
use Rattle.rule.specs.Fits.{keeps}
use Rattle.coeffs.proofs.inner.kept.Goals as goal

pub returns : goal.returns
unfolding keeps
returns c = ap (le _) c.abs.ensures
