-- `fill_page` meets its contract: by either layout.
use Rattle.places.specs.Stored.{stored}
use Rattle.places.specs.ThetaLaws.{rows_fit}
use Rattle.sums.proofs.inner.pages.fill_page.Goals as goal

pub fill_rows-requires : goal.fill_rows-requires
fill_rows-requires c = (rows_fit c.args.theta c.args.i c.args.h c.requires.0, c.requires.1)

pub returns-in-ByRows : goal.returns-in-ByRows
unfolding stored
returns-in-ByRows c =
    rw c.in-ByRows.is (record { each = c.fill_rows.ensures.each })

pub returns-in-ByColumns : goal.returns-in-ByColumns
returns-in-ByColumns c =
    rw c.in-ByColumns.is c.fill_columns.ensures
