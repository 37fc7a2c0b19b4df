-- The programs' own sizes: each follows from the first two. Assumes nothing.
use Rattle.std.specs.Prelude.{ℕ, ◌+◌, ◌*◌}
use Rattle.places.specs.declared.Layout.TheVariants.{ByRows}
use Rattle.reader.specs.Header.{header_frame}
use Rattle.reader.specs.Numbers.{frame_digits}

-- their own limits: 128 rows, 16 columns
abbrev pub most_rows : ℕ
most_rows = 128

abbrev pub most_cols : ℕ
most_cols = 16

-- one byte more than the longest valid input has: theta by rows (by columns an input has fewer newlines)
abbrev pub input_room : ℕ
input_room = header_frame + most_rows * (frame_digits ByRows most_rows most_cols + 1) + 1

-- the workspace of the largest fit: by least squares
abbrev pub most_space : ℕ
most_space = 2 * ((most_rows + most_cols) * most_cols) + 3 * (most_rows + most_cols) + 3 * most_cols
