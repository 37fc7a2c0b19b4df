-- The numbers in the frames after the header, by theta's layout. Assumes nothing.
use Rattle.std.specs.Prelude.{ℕ, ◌+◌, ◌*◌, ◌≤◌, List, Float}
use Rattle.places.specs.declared.Layout.{Layout}
use Rattle.places.specs.declared.Layout.TheVariants.{ByRows, ByColumns}
use Rattle.hexdigits.specs.Hex.{float}
use Rattle.reader.specs.Frames.{frame_at, Formed}
use Rattle.reader.specs.declared.inner.frames.Frames.{Frames}

-- by rows a frame a row; by columns a single frame with all targets, then one a column
abbrev pub frame_count : Layout → ℕ → ℕ → ℕ
frame_count ByRows rows cols = rows
frame_count ByColumns rows cols = 1 + cols

-- the digits of each, 16 a number: by rows the target and the features of a row, by columns a number a row, so with no rows each is an empty line
abbrev pub frame_digits : Layout → ℕ → ℕ → ℕ
frame_digits ByRows rows cols = 16 * (1 + cols)
frame_digits ByColumns rows cols = 16 * rows

-- number j of frame k, where a frame has so many digits
abbrev pub frame_number : List ℕ → ℕ → ℕ → ℕ → Float
frame_number s width k j = float s (frame_at width k + 16 * j)

-- the target of row r: by rows the first number of its frame, by columns number r of the first frame
abbrev pub target : List ℕ → Layout → ℕ → ℕ → ℕ → Float
target s ByRows rows cols r = frame_number s (frame_digits ByRows rows cols) r 0
target s ByColumns rows cols r = frame_number s (frame_digits ByColumns rows cols) 0 r

-- the feature j of row r: by rows it follows the target, by columns its frame follows that of the targets
abbrev pub feature : List ℕ → Layout → ℕ → ℕ → ℕ → ℕ → Float
feature s ByRows rows cols r j = frame_number s (frame_digits ByRows rows cols) r (1 + j)
feature s ByColumns rows cols r j = frame_number s (frame_digits ByColumns rows cols) (1 + j) r

-- a part of well formed frames: so many from the first on, and of each so many numbers from a place on
pub record PartOf (s : List ℕ) (whole : Frames) (first frames place each : ℕ) : Type 0 where
  pub formed : Formed s whole.count whole.width
  pub there : first + frames ≤ whole.count
  pub wide : 16 * (place + each) ≤ whole.width
