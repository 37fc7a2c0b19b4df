-- `squared_error` meets its contract: the kept columns are listed, and the rows walked.
use Rattle.leftover.proofs.Laws.{error_listed}
use Rattle.leftover.proofs.inner.squared_error.Goals as goal

pub returns : goal.returns
returns c =
    let theta = c.args.theta in
    let kept = c.kept_columns-kept.ensures in
    error_listed theta.rows theta.cols _ _ _ c.args.kept.0 c.args.coeffs.now _ kept.lists kept.long (rw kept.theta at c.walk_stored.ensures)
