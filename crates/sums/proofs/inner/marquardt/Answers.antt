-- `marquardt` meets its contract: a branch a return.
use Rattle.sums.specs.Products.{marquardt}
use Rattle.sums.proofs.inner.marquardt.Goals as goal

pub returns-then-abs : goal.returns-then-abs
unfolding marquardt
returns-then-abs c = rw (← c.abs.ensures, c.if-abs.true)

pub returns-else-abs : goal.returns-else-abs
unfolding marquardt
returns-else-abs c = rw (← c.abs.ensures, c.if-abs.false)
