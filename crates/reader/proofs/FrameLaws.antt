-- Where the frames stand, and what formed ones have. Assumes nothing.
use mathlib.Core.Path.{◌≡◌, ◌∙◌, subst}
use mathlib.Core.Bool.{Bool, true, false}
use Rattle.std.specs.Bool.{MatchBool}
use Rattle.std.specs.List.{AllWithin, HoldsAt, range_with_len}
use Rattle.std.proofs.lemmas.List.FromFn.{length-range_with_len, get_or-range_with_len}
use mathlib.Core.List.{List}
use Prim.Native.Nat.{ℕ, ◌+◌, ◌≤◌, ◌<◌}
use native.Mathlib.Nat.{zero-add}
use native.Mathlib.Omega.{arith}
use borrow.Author.Tests.{eqb-true, eq-eqb}
use lib.Dec.{eqb}
use lib.ListN.{length}
use Rattle.steps.specs.Table.{row_fits}
use Rattle.hexdigits.specs.All.{all_at, all_not, all_each, and_both}
use Rattle.hexdigits.specs.Hex.{all_hex, Digits}
use Rattle.reader.specs.Frames.{frame_at, frame_formed, frames_formed, Formed}

-- a frame ends before the next one begins
pub frame_within : (count width k : ℕ) → k < count → frame_at width k + width + 1 ≤ frame_at width count
unfolding frame_at
frame_within count width k h = omega (arith, row_fits count (width + 1) k h)

-- the digits of a frame
pub frame_has : {s : List ℕ} {count width : ℕ} (k : ℕ) → Formed s count width → k < count → Digits s (frame_at width k) width
unfolding frames_formed frame_formed
frame_has {s} {count} {width} k f h =
    let long = and_both (eqb (length s) (frame_at width count)) _ f.formed in
    let frame = and_both (all_hex s (frame_at width k) width) _ (all_at (frame_formed s width) count k long.1 h) in
    record { within = omega (arith, eqb-true (length s) (frame_at width count) long.0, frame_within count width k h); good = frame.0 }

-- so it has room where its test looks
pub frame_fits : (s : List ℕ) (width : ℕ) {count : ℕ} → length s ≡ frame_at width count → (k : ℕ) → k < count → (k ≤ count) × (frame_at width k + width < length s)
frame_fits s width {count} long k h = (omega arith, omega (arith, frame_within count width k h))

-- what a search for a frame that is not formed answers
pub frames_answer : (s : List ℕ) (count width : ℕ) (r : Bool) → length s ≡ frame_at width count
    → MatchBool r (AllWithin (λ k. frame_formed s width k ≡ true) (range_with_len 0 count) 0 (length (range_with_len 0 count)))
    ((k : ℕ) × (k < length (range_with_len 0 count)) × HoldsAt (λ k. frame_formed s width k ≡ false) (range_with_len 0 count) k)
    → r ≡ frames_formed s count width
unfolding frames_formed
frames_answer s count width true long h =
    let each = all_each (frame_formed s width) count (λ k l. subst (λ (i : ℕ). frame_formed s width i ≡ true) (get_or-range_with_len 0 count k 0 l ∙ zero-add k) (h k 0 (omega arith) (omega (arith, length-range_with_len 0 count)))) in
    simp (eq-eqb _ _ long, each)
frames_answer s count width false long h =
    let below : h.0 < count = omega (arith, length-range_with_len 0 count, h.1) in
    let not = subst (λ (i : ℕ). frame_formed s width i ≡ false) (get_or-range_with_len 0 count h.0 0 below ∙ zero-add h.0) (h.2 0) in
    simp (eq-eqb _ _ long, all_not (frame_formed s width) h.0 count below not)
