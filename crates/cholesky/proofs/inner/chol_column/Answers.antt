-- `chol_column` meets its contract: stopped at a diagonal that is at most the bound, else the root and the entries below it.
use Rattle.cholesky.specs.Cholesky.{chol_store, chol_column}
use Rattle.cholesky.proofs.inner.chol_column.Goals as goal

pub returns-then-s-bound : goal.returns-then-s-bound
unfolding chol_column
returns-then-s-bound c = rw (← c.row_less-s.ensures, c.if-s-bound.true)

pub returns : goal.returns
unfolding chol_column chol_store
returns c = rw (← c.row_less-s.ensures, c.if-s-bound.false, c.chol_below.ensures, c.put.ensures, c.sqrt-d.ensures.value)
