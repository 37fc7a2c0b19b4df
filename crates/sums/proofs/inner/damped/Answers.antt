-- `damped` meets its contract, a damping at a time.
use Rattle.sums.specs.Products.{ridge}
use Rattle.sums.proofs.inner.damped.Goals as goal

pub returns-in-Ridge : goal.returns-in-Ridge
unfolding ridge
returns-in-Ridge c = rw c.in-Ridge.is

pub returns-in-Proportion : goal.returns-in-Proportion
returns-in-Proportion c = rw c.in-Proportion.is c.marquardt.ensures
