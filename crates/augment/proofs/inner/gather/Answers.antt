-- `gather` meets its contract: by either layout.
use Rattle.places.specs.Stored.{stored}
use Rattle.augment.proofs.inner.gather.Goals as goal

pub returns-in-ByRows : goal.returns-in-ByRows
unfolding stored
returns-in-ByRows c =
    rw c.in-ByRows.is c.gather_rows.ensures

pub returns-in-ByColumns : goal.returns-in-ByColumns
returns-in-ByColumns c =
    rw c.in-ByColumns.is c.gather_columns.ensures
