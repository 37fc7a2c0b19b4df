-- What is read of an accepted input. Assumes nothing.
use Rattle.std.specs.Prelude.{◌≡◌, List, ℕ, ◌-◌, ◌*◌, ◌≤◌, T, take, Float}
use Rattle.std.proofs.Common.{mul-le-mul, arith}
use Rattle.std.specs.Float.{binary64}
use Rattle.std.specs.Float.Ieee.{fits}
use Rattle.std.specs.Float.Ieee.Bits.{of_bits-fits}
use Rattle.steps.specs.Num.{at}
use Rattle.steps.specs.Table.{length_tab}
use Rattle.places.specs.declared.Layout.{Layout}
use Rattle.places.specs.declared.Layout.TheVariants.{ByRows, ByColumns}
use Rattle.places.specs.Stored.{length_laid_out}
use Rattle.rule.specs.Sizes.{Limited, Sized}
use Rattle.rule.specs.Rounded.{in_format, tab_column}
use Rattle.rule.specs.declared.Task.{Task}
use Rattle.reader.specs.Frames.{FewFrames, Formed}
use Rattle.reader.specs.Numbers.{frame_count, frame_digits, target}
use Rattle.exchange.specs.Limits.{most_cols, most_rows}
use Rattle.exchange.specs.Exchange.{task_frames, task_digits, Accepted, theta_asked, target_asked, HasRead}

-- within the limits the frames are few, and theta has room
few_by : (layout : Layout) (rows cols : ℕ) → rows ≤ most_rows → cols ≤ most_cols → FewFrames (frame_count layout rows cols) (frame_digits layout rows cols)
few_by ByRows rows cols h k = record { frames = h; digits = omega arith }
few_by ByColumns rows cols h k = record { frames = omega arith; digits = omega arith }

pub few_frames : {task : Task} → Limited most_cols most_rows task → FewFrames (task_frames task) (task_digits task)
few_frames {task} l = few_by task.layout task.rows task.cols l.few_rows l.few_cols

pub theta_room : {task : Task} → Limited most_cols most_rows task → task.rows * task.cols ≤ most_rows * most_cols
theta_room l = mul-le-mul l.few_rows l.few_cols

pub all_formed : {s : List ℕ} {task : Task} → Accepted s task → Formed s (task_frames task) (task_digits task)
all_formed ok = record { few = few_frames ok.limited; formed = ok.formed }

-- theta and target as asked have the task's sizes
pub asked_sizes : {s : List ℕ} {task : Task} → Accepted s task → Sized task (theta_asked s task) (target_asked s task)
unfolding theta_asked target_asked
asked_sizes {s} {task} ok =
    let l = ok.limited in
    record {
      limited = record { few_cols = omega (arith, l.few_cols); few_rows = omega (arith, l.few_rows); few_rounds = l.few_rounds };
      theta_long = length_laid_out task.layout task.rows task.cols _;
      target_long = length_tab task.rows _;
    }

-- each number of the target is a binary64, since its digits are read as one
number_fits : (s : List ℕ) (layout : Layout) (rows cols r : ℕ) → T (fits binary64 (target s layout rows cols r))
number_fits s ByRows rows cols r = of_bits-fits binary64 _
number_fits s ByColumns rows cols r = of_bits-fits binary64 _

pub target_fits : (s : List ℕ) (task : Task) (i : ℕ) → T (fits binary64 (at (target_asked s task) i))
unfolding target_asked
target_fits s task = (tab_column in_format task.rows _ (number_fits s task.layout task.rows task.cols)).each

-- as they were read, they are lent from their first number on
first_part : (n : ℕ) (l t : List Float) → take n l ≡ t → take (n - 0) l ≡ t
first_part n l t e = let z : n - 0 ≡ n = omega arith in rw z e

module _ {s : List ℕ} {task : Task} {theta target : List Float} (has : HasRead s task theta target) where
  pub theta_lent : take (task.rows * task.cols - 0) theta ≡ theta_asked s task
  theta_lent = first_part (task.rows * task.cols) theta _ has.theta_read

  pub target_lent : take (task.rows - 0) target ≡ target_asked s task
  target_lent = first_part task.rows target _ has.target_read

  pub lent_sizes : Accepted s task → Sized task (take (task.rows * task.cols - 0) theta) (take (task.rows - 0) target)
  lent_sizes ok = rw (theta_lent, target_lent) (asked_sizes ok)
