-- `read_target` reads its part of the frames, by the layout.
use Rattle.reader.proofs.Layouts.{by_rows_target, by_columns_target}
use Rattle.reader.proofs.inner.numbers.read_target.Goals as goal

pub returns-in-ByRows : goal.returns-in-ByRows
returns-in-ByRows c =
    by_rows_target _ _ _ _ c.frames_of-all.result c.frames_of-all.ensures.width c.in-ByRows.is _ c.read_part.ensures

pub returns-in-ByColumns : goal.returns-in-ByColumns
returns-in-ByColumns c =
    by_columns_target _ _ _ _ c.frames_of-all.result c.frames_of-all.ensures.width c.in-ByColumns.is _ c.read_part-in-ByColumns.ensures
