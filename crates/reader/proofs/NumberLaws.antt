-- The numbers of a part of the frames, in order. Assumes nothing.
use mathlib.Core.Path.{◌≡◌, ap, ◌∙◌}
use mathlib.Core.Logic.{⊎_elim}
use mathlib.Core.List.{List}
use Prim.Native.Nat.{ℕ, ◌+◌, ◌*◌, ◌/◌, ◌%◌, ◌≤◌, ◌<◌}
use native.Mathlib.Nat.{mul-zero, mul-one, one-mul, div-one, mod-one, div-eq_of_lt, mod-eq_of_lt, eq-zero-or-pos, mod-lt, div-lt_iff_lt-mul}
use native.Mathlib.Omega.{arith}
use lib.ListN.{length, set, take}
use lib.Seq.{take_at}
use lib.Ieee.{Float}
use Rattle.steps.specs.Table.{tab, length_tab, tab_cong, table, filled, filled_more}
use Rattle.hexdigits.specs.Hex.{Digits}
use Rattle.hexdigits.specs.Parts.{part_digits}
use Rattle.reader.specs.Frames.{frame_at}
use Rattle.reader.specs.declared.inner.frames.Frames.{Frames}
use Rattle.reader.specs.Numbers.{PartOf}
use Rattle.reader.proofs.FrameLaws.{frame_has}

-- the frame of a number, and its place there
pub some_each : (frames each i : ℕ) → i < frames * each → 0 < each
some_each frames each i h = ⊎_elim (λ e. let z : frames * each ≡ 0 = ap (λ (x : ℕ). frames * x) e ∙ mul-zero frames in omega arith) (λ p. p) (eq-zero-or-pos each)

pub place_in : (frames each i : ℕ) → i < frames * each → (i / each < frames) × (i % each < each)
place_in frames each i h = let some = some_each frames each i h in ((div-lt_iff_lt-mul some).1 h, mod-lt i some)

-- number j of frame k of a part: its frame is one of them all, and it has its digits there
module _ {s : List ℕ} {whole : Frames} {first frames place each : ℕ} (part : PartOf s whole first frames place each) (k j : ℕ) (h : k < frames) (l : j < each) where
  pub part_there : first + k ≤ whole.count
  part_there = omega (arith, part.there)

  pub part_has : Digits s (frame_at whole.width (first + k) + 16 * (place + j)) 16
  part_has = part_digits _ 16 (frame_has (first + k) part.formed (omega (arith, part.there))) (omega arith) (omega (arith, part.wide))

-- a loop that fills a slice in order: one more number, and the end
module _ (f : ℕ → Float) (was now : List Float) where
  pub fill_more : (i : ℕ) (x : Float) → i < length was → now ≡ filled f i was → x ≡ f i → set now i x ≡ filled f (i + 1) was
  fill_more i x h e g = rw (e, g) (filled_more f i was h)

  pub fill_end : (i n : ℕ) → now ≡ filled f i was → i ≤ n → n ≤ i → take n now ≡ tab n f
  unfolding filled
  fill_end i n e h k = let q : i ≡ n = omega arith in rw (e, q) (take_at (tab n f) _ n (length_tab n f))

-- one number of each of n frames, and n numbers of one frame, are a list
pub one_each : (n : ℕ) (f : ℕ → ℕ → Float) → table n 1 f ≡ tab n (λ k. f k 0)
unfolding table
one_each n f = rw (mul-one n) (tab_cong n _ _ (λ k h. rw (div-one k, mod-one k)))

pub one_frame : (n : ℕ) (f : ℕ → ℕ → Float) → table 1 n f ≡ tab n (f 0)
unfolding table
one_frame n f = rw (one-mul n) (tab_cong n _ _ (λ j h. rw (div-eq_of_lt h, mod-eq_of_lt h)))
