-- `walk_stored` meets its contract: by either layout.
use Rattle.places.specs.Stored.{stored}
use Rattle.leftover.proofs.inner.walk_stored.Goals as goal

pub returns-in-ByRows : goal.returns-in-ByRows
unfolding stored
returns-in-ByRows c = rw c.in-ByRows.is c.walk.ensures

pub returns-in-ByColumns : goal.returns-in-ByColumns
returns-in-ByColumns c = rw c.in-ByColumns.is c.walk_columns.ensures
