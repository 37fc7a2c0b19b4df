-- `report` meets its contract: the kept word of the coefficients, and the error that its terms leave.
use Prim.Native.Nat.{◌^◌, ◌<◌}
use mathlib.Core.Path.{sym, ◌∙◌}
use Rattle.support.specs.WordLaws.{word_lt}
use Rattle.strlsq.proofs.Report.{reports}
use Rattle.strlsq.proofs.inner.report.Goals as goal

pub squared_error-requires : goal.squared_error-requires
squared_error-requires c =
    let g = c.args.given in
    let terms : c.support_of-kept.result.0 < 2 ^ g.task.cols = rw (c.support_of-kept.ensures, c.requires.0) (word_lt _ g.task.cols) in
    (rw c.theta.ensures.cols terms, g.sized.target_long ∙ sym c.theta.ensures.rows, c.requires.0 ∙ sym c.theta.ensures.cols)

pub returns : goal.returns
returns c =
    let a = c.args in
    let g = a.given in
    reports g.task g.theta.now g.target.now a.watched.stop a.watched.refits c.support_of-kept.result c.squared_error.result a.coeffs.now
    c.requires.0 c.requires.1 c.support_of-kept.ensures
    (rw (c.theta.ensures.matrix, c.theta.ensures.rows, c.theta.ensures.cols) at c.squared_error.ensures)
