-- `pruned` meets its contract: its test is `clears`.
use Rattle.rule.specs.Fits.{clears}
use Rattle.coeffs.proofs.inner.pruned.Goals as goal

pub returns-then-abs-setup : goal.returns-then-abs-setup
unfolding clears
returns-then-abs-setup c = rw (← c.abs.ensures, c.if-abs-setup.true)

pub returns-else-abs-setup : goal.returns-else-abs-setup
unfolding clears
returns-else-abs-setup c = rw (← c.abs.ensures, c.if-abs-setup.false)
