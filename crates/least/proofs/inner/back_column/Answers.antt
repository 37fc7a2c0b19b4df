-- `back_column` meets its contract: stopped at a small diagonal, else divided and the entries above updated.
use Rattle.std.proofs.Common.{◌∙◌, ap}
use Rattle.steps.specs.Loops.{going}
use Rattle.least.proofs.Back.{column_stops, column_goes}
use Rattle.least.proofs.inner.back_column.Goals as goal

pub returns-then-abs : goal.returns-then-abs
returns-then-abs c = column_stops _ _ _ _ _ c.at-r.ensures (rw c.abs.ensures at c.if-abs.true)

pub returns : goal.returns
returns c = ap going c.lessen_above.ensures ∙ column_goes _ _ _ _ _ c.at-r.ensures (rw c.abs.ensures at c.if-abs.false)
