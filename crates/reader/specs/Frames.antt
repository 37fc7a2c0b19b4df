-- The frames after the header: so many, each as wide as the others. Assumes nothing.
use Rattle.std.specs.Prelude.{ℕ, ◌+◌, ◌*◌, ◌≤◌, ◌≡◌, Bool, true, ◌&&◌, List, eqb, length, get_or}
use Rattle.hexdigits.specs.All.{all}
use Rattle.hexdigits.specs.Hex.{all_hex, newline}
use Rattle.reader.specs.Header.{header_frame}

-- where frame k begins: after the header, and after k frames, each with its newline
unfoldable pub frame_at : ℕ → ℕ → ℕ
frame_at width k = header_frame + k * (width + 1)

-- whether frame k is its digits and a newline
unfoldable pub frame_formed : List ℕ → ℕ → ℕ → Bool
frame_formed s width k = all_hex s (frame_at width k) width && eqb (get_or s (frame_at width k + width) 0) newline

-- whether all frames are well formed, and nothing stands after the last
unfoldable pub frames_formed : List ℕ → ℕ → ℕ → Bool
frames_formed s count width = eqb (length s) (frame_at width count) && all (frame_formed s width) count

-- no more frames, and none wider, than any input has
pub record FewFrames (count width : ℕ) : Type 0 where
  pub frames : count ≤ 128
  pub digits : width ≤ 2048

-- an input with so many well formed frames
pub record Formed (s : List ℕ) (count width : ℕ) : Type 0 where
  pub few : FewFrames count width
  pub formed : frames_formed s count width ≡ true
