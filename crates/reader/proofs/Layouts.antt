-- Which part of the frames theta is, and which the target, by the layout that was told. Assumes nothing.
use mathlib.Core.Path.{◌≡◌, ◌∙◌}
use mathlib.Core.List.{List}
use Prim.Native.Nat.{ℕ, ◌+◌, ◌*◌}
use native.Mathlib.Nat.{zero-add, mul_comm}
use native.Mathlib.Omega.{arith}
use lib.ListN.{take}
use lib.Ieee.{Float}
use Rattle.steps.specs.Table.{tab, tab_cong, table, table_cong}
use Rattle.places.specs.declared.Layout.{Layout}
use Rattle.places.specs.declared.Layout.TheVariants.{ByRows, ByColumns}
use Rattle.places.specs.Stored.{laid_out}
use Rattle.reader.specs.declared.inner.frames.Frames.{Frames}
use Rattle.reader.specs.Numbers.{frame_digits, frame_number, target, feature}
use Rattle.reader.proofs.NumberLaws.{one_each, one_frame}

module _ (s : List ℕ) (layout : Layout) (rows cols : ℕ) (whole : Frames) (wide : whole.width ≡ frame_digits layout rows cols) where
  -- the numbers of a part as `read_part` reads them
  abbrev part : ℕ → ℕ → ℕ → ℕ → List Float
  part first frames place each = table frames each (λ k j. frame_number s whole.width (first + k) (place + j))

  module _ (told : layout ≡ ByRows) where
    -- by rows theta is all but the first number of each frame
    pub by_rows_theta : (theta : List Float) → take (rows * cols) theta ≡ part 0 rows 1 cols → take (rows * cols) theta ≡ laid_out layout rows cols (feature s layout rows cols)
    unfolding laid_out
    by_rows_theta theta e = e ∙ rw (wide, told) (table_cong rows cols _ _ (λ k j h l. rw (zero-add k)))

    -- and the target is that first number
    pub by_rows_target : (t : List Float) → take (rows * 1) t ≡ part 0 rows 0 1 → take rows t ≡ tab rows (target s layout rows cols)
    by_rows_target t e = let n : rows * 1 ≡ rows = omega arith in rw n at e ∙ one_each rows _ ∙ rw (wide, told) (tab_cong rows _ _ (λ k h. rw (zero-add k)))

  module _ (told : layout ≡ ByColumns) where
    -- by columns theta is all frames but the first
    pub by_columns_theta : (theta : List Float) → take (cols * rows) theta ≡ part 1 cols 0 rows → take (rows * cols) theta ≡ laid_out layout rows cols (feature s layout rows cols)
    unfolding laid_out
    by_columns_theta theta e = rw (mul_comm cols rows) at e ∙ rw (wide, told) (table_cong cols rows _ _ (λ k j h l. rw (zero-add j)))

    -- and the target is that first frame
    pub by_columns_target : (t : List Float) → take (1 * rows) t ≡ part 0 1 0 rows → take rows t ≡ tab rows (target s layout rows cols)
    by_columns_target t e = let n : 1 * rows ≡ rows = omega arith in rw n at e ∙ one_frame rows _ ∙ rw (wide, told) (tab_cong rows _ _ (λ j h. rw (zero-add j)))
