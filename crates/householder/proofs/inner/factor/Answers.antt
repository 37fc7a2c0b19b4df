-- `factor` meets its contract: that of `each_column`, since a few columns are as many as before.
use Rattle.householder.proofs.inner.factor.Goals as goal

pub returns : goal.returns
returns c =
    rw (← c.few.ensures) c.each_column.ensures
