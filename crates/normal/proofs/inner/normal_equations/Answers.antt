-- `normal_equations` meets its contract: both solves see a copy of the matrix.
use Rattle.std.proofs.Common.{sym, ◌∙◌}
use Rattle.normal.specs.Ends.{was_done, was_refused, normal_goes, normal_by_lu}
use Rattle.normal.proofs.inner.normal_equations.Goals as goal

pub returns-then-is_err : goal.returns-then-is_err
returns-then-is_err c =
    let refused = was_refused c.cholesky.result (sym c.is_err.ensures.value ∙ c.if-is_err.true) in
    normal_by_lu _ _ _ _ c.lu.result _ _ _ c.lu.new.a c.lu.new.b
    (rw c.copy.ensures at c.cholesky.ensures) refused.1 (rw c.copy-then-is_err.ensures at c.lu.ensures)

pub returns : goal.returns
returns c =
    normal_goes _ _ _ _ _ _ (rw c.copy.ensures at c.cholesky.ensures) (was_done c.cholesky.result (sym c.is_err.ensures.value ∙ c.if-is_err.false))
