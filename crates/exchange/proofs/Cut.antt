-- Reading no more than the programs' room changes no answer: an input that is longer than any valid one is refused by its header, or is malformed. Assumes nothing.
use Rattle.std.specs.Prelude.{Err, None, Ok, Some, ◌≡◌, Bool, false, ◌&&◌, List, get_or, Option}
use Rattle.std.proofs.Math.Path.{refl, ap, ap₂}
use Rattle.std.proofs.Common.{◌∙◌, ⊎_elim, mul-le-mul, arith, take_all}
use Prim.Native.Nat.{ℕ, zero, suc, ◌+◌, ◌*◌, ◌≤◌, ◌<◌}
use borrow.Author.Tests.{ne_eqb, le-leb}
use Rattle.std.proofs.Math.Dec.{ltb}
use Rattle.std.proofs.Math.ListN.{length, take}
use Rattle.std.proofs.Math.Seq.{get_or-take, length-take-le}
use Rattle.steps.specs.Cond.{lt_or_ge}
use Rattle.refusal.specs.Answers.{and_then, Answer}
use Rattle.refusal.specs.declared.Refusal.{Refusal}
use Rattle.refusal.specs.declared.Refusal.TheVariants.{Malformed}
use Rattle.hexdigits.specs.All.{all}
use Rattle.hexdigits.specs.Hex.{value, all_hex, number_at}
use Rattle.places.specs.declared.Layout.{Layout}
use Rattle.places.specs.declared.Layout.TheVariants.{ByRows, ByColumns}
use Rattle.rule.specs.Sizes.{Limited}
use Rattle.rule.specs.Codes.{by_code}
use Rattle.rule.specs.declared.Solver.{Solver}
use Rattle.rule.specs.declared.Task.{Task}
use Rattle.reader.specs.Header.{header_digits, header_frame, header_formed, header, head_by, head_of}
use Rattle.reader.specs.Frames.{frame_at, frames_formed}
use Rattle.reader.specs.Numbers.{frame_count, frame_digits}
use Rattle.exchange.specs.Limits.{most_cols, most_rows, input_room}
use Rattle.exchange.specs.Exchange.{task_frames, task_digits, frames_fine, then_rows, answer_lines, answer_to, answer_by}

-- where the first ladder is passed, the second refuses as w
refused_after : (a next : Answer) (w : Refusal) → (a ≡ Ok tt → next ≡ Err w) → and_then a next ≡ and_then a (Err w)
refused_after (Ok done) next w h = h refl
refused_after (Err v) next w h = refl

-- two tests that agree below n
all_same : (f g : ℕ → Bool) (n : ℕ) → ((i : ℕ) → i < n → f i ≡ g i) → all f n ≡ all g n
unfolding all
all_same f g zero h = refl
all_same f g (suc n) h = ap₂ ◌&&◌ (all_same f g n (λ i l. h i (omega arith))) (h n (omega arith))

-- two inputs with the same bytes where a header stands
module _ (s t : List ℕ) (same : (i : ℕ) → i < header_frame → get_or s i 0 ≡ get_or t i 0) where
  number_same : (a n : ℕ) → a + n ≤ header_frame → number_at s a n ≡ number_at t a n
  unfolding number_at
  number_same a zero h = refl
  number_same a (suc n) h = ap₂ (λ (x y : ℕ). x * 16 + value y) (number_same a n (omega arith)) (same (a + n) (omega arith))

  hex_same : all_hex s 0 header_digits ≡ all_hex t 0 header_digits
  unfolding all_hex
  hex_same = all_same _ _ header_digits (λ i l. ap (λ (y : ℕ). ltb (value y) 16) (same (0 + i) (omega arith)))

  fields_same : (layout : Layout) (solver : Solver) → header s layout solver ≡ header t layout solver
  unfolding header
  fields_same layout solver =
      rw (
        number_same 2 4 (omega arith),
        number_same 6 2 (omega arith),
        number_same 8 4 (omega arith),
        number_same 12 16 (omega arith),
        number_same 28 16 (omega arith),
      )

  coded_same : (k : Option (Layout × Solver)) → head_by s k ≡ head_by t k
  coded_same (Some (layout, solver)) = ap Some (fields_same layout solver)
  coded_same None = refl

  head_same : header_frame ≤ length s → header_frame ≤ length t → head_of s ≡ head_of t
  unfolding head_of header_formed
  head_same h k =
      rw (le-leb _ _ h, le-leb _ _ k, hex_same, same header_digits (omega arith), number_same 0 2 (omega arith), coded_same (by_code (number_at t 0 2)))

-- within the limits the frames end before the room does, however theta is stored
frames_end : (layout : Layout) (rows cols : ℕ) → rows ≤ most_rows → cols ≤ most_cols → frame_at (frame_digits layout rows cols) (frame_count layout rows cols) < input_room
unfolding frame_at
frames_end ByRows rows cols h k = let wide : 16 * (1 + cols) + 1 ≤ 16 * (1 + most_cols) + 1 = omega arith in omega (arith, mul-le-mul h wide)
frames_end ByColumns rows cols h k =
    let many : 1 + cols ≤ 1 + most_cols = omega arith in
    let wide : 16 * rows + 1 ≤ 16 * most_rows + 1 = omega arith in
    omega (arith, mul-le-mul many wide)

-- so a longer input is malformed, if its header does not refuse it
long_formed : (s : List ℕ) → input_room ≤ length s → (task : Task) → Limited most_cols most_rows task → frames_fine s task ≡ false
unfolding frames_formed
long_formed s l task k =
    let end = frames_end task.layout task.rows task.cols k.few_rows k.few_cols in
    rw (ne_eqb (length s) (frame_at (task_digits task) (task_frames task)) (λ e. omega (arith, end))) refl

-- a program that passes only tasks within the limits, and writes any lines of them
module _ (before : Task → Answer) (lines : List ℕ → Task → List ℕ) (passed : (task : Task) → before task ≡ Ok tt → Limited most_cols most_rows task) where
  -- so what refuses a longer input is by its task alone
  long_checked : (s : List ℕ) → input_room ≤ length s → (task : Task) → then_rows (before task) s task ≡ and_then (before task) (Err Malformed)
  unfolding then_rows
  long_checked s l task = refused_after (before task) _ Malformed (λ e. rw (long_formed s l task (passed task e)) refl)

  -- a refusal's line does not depend on the input
  same_lines : (s t : List ℕ) (task : Task) (a : Answer) → answer_lines lines s task (and_then a (Err Malformed)) ≡ answer_lines lines t task (and_then a (Err Malformed))
  unfolding answer_lines
  same_lines s t task (Ok done) = refl
  same_lines s t task (Err w) = refl

  -- so two longer inputs of one header are answered alike
  long_answer : (s t : List ℕ) (d : Option Task) → input_room ≤ length s → input_room ≤ length t → answer_to before lines s d ≡ answer_to before lines t d
  unfolding answer_to
  long_answer s t (Some task) l k = rw (long_checked s l task, long_checked t k task) (same_lines s t task (before task))
  long_answer s t None l k = refl

  long_cut : (s : List ℕ) → input_room ≤ length s → answer_by before lines (take input_room s) ≡ answer_by before lines s
  unfolding answer_by
  long_cut s l =
      let t = take input_room s in
      let len : length t ≡ input_room = length-take-le input_room s l in
      let head = head_same t s (λ i k. get_or-take input_room s i 0 (omega arith)) (omega (arith, len)) (omega arith) in
      ap (answer_to before lines t) head ∙ long_answer t s (head_of s) (omega (arith, len)) l

  -- the bytes beyond the room change no answer
  pub cut_alike_by : (s : List ℕ) → answer_by before lines (take input_room s) ≡ answer_by before lines s
  cut_alike_by s = ⊎_elim (λ l. ap (answer_by before lines) (take_all input_room s (omega arith))) (long_cut s) (lt_or_ge (length s) input_room)
