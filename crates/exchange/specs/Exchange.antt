-- A program's exchange, the bytes of an input in, those of its answer out: over what refuses a task before its rows are looked at, and over the lines of an accepted input.
-- Assumes nothing.
use Rattle.std.specs.Prelude.{◌≡◌, ℕ, ◌*◌, Bool, true, not, Option, None, Some, Result, Ok, Err, List, ◌++◌, length, take, drop, Float}
use Rattle.steps.specs.Num.{Entry}
use Rattle.steps.specs.Table.{tab}
use Rattle.refusal.specs.Answers.{Answer, refuse_if, and_then}
use Rattle.refusal.specs.declared.Refusal.{Refusal}
use Rattle.refusal.specs.declared.Refusal.TheVariants.{Malformed}
use Rattle.places.specs.Stored.{laid_out}
use Rattle.rule.specs.Sizes.{Limited}
use Rattle.rule.specs.declared.Task.{Task}
use Rattle.reader.specs.Header.{head_of}
use Rattle.reader.specs.Frames.{frames_formed}
use Rattle.reader.specs.Numbers.{frame_count, frame_digits, target, feature}
use Rattle.writer.specs.Answer.{refusal_line}
use Rattle.exchange.specs.Limits.{most_cols, most_rows}

-- how many frames follow the header, and the digits of each
abbrev pub task_frames : Task → ℕ
task_frames task = frame_count task.layout task.rows task.cols

abbrev pub task_digits : Task → ℕ
task_digits task = frame_digits task.layout task.rows task.cols

-- these frames, and nothing after the last
abbrev pub frames_fine : List ℕ → Task → Bool
frames_fine s task = frames_formed s (task_frames task) (task_digits task)

-- malformed rows or tail
abbrev pub rows_fine : List ℕ → Task → Answer
rows_fine s task = refuse_if (not (frames_fine s task)) Malformed (Ok tt)

-- what was refused first, else malformed rows or tail
unfoldable pub then_rows : Answer → List ℕ → Task → Answer
then_rows first s task = and_then first (rows_fine s task)

-- the task itself, where a check refuses nothing
abbrev pub task_if : Task → Answer → Result Task Refusal
task_if task (Ok done) = Ok task
task_if task (Err w) = Err w

-- a malformed header, else what is checked of its task
abbrev pub passed : (Task → Answer) → Option Task → Result Task Refusal
passed check None = Err Malformed
passed check (Some task) = task_if task (check task)

-- an accepted input: its task within the limits, its frames well formed
pub record Accepted (s : List ℕ) (task : Task) : Type 0 where
  pub limited : Limited most_cols most_rows task
  pub formed : frames_fine s task ≡ true

-- the matrix of an input: the features of each row
abbrev pub matrix_asked : List ℕ → Task → Entry
matrix_asked s task = feature s task.layout task.rows task.cols

-- theta: that matrix as it is stored
unfoldable pub theta_asked : List ℕ → Task → List Float
theta_asked s task = laid_out task.layout task.rows task.cols (matrix_asked s task)

-- and its target: that of each row
unfoldable pub target_asked : List ℕ → Task → List Float
target_asked s task = tab task.rows (target s task.layout task.rows task.cols)

-- they were read, each to the head of its list
pub record HasRead (s : List ℕ) (task : Task) (theta target : List Float) : Type 0 where
  pub theta_read : take (task.rows * task.cols) theta ≡ theta_asked s task
  pub target_read : take task.rows target ≡ target_asked s task

-- a refusal's line, or the lines of an accepted input
unfoldable pub answer_lines : (List ℕ → Task → List ℕ) → List ℕ → Task → Answer → List ℕ
answer_lines lines s task (Ok done) = lines s task
answer_lines lines s task (Err w) = refusal_line w

-- malformed header first, then what refuses a task before its rows, then the rest
unfoldable pub answer_to : (Task → Answer) → (List ℕ → Task → List ℕ) → List ℕ → Option Task → List ℕ
answer_to before lines s None = refusal_line Malformed
answer_to before lines s (Some task) = answer_lines lines s task (then_rows (before task) s task)

-- the answer to an input
unfoldable pub answer_by : (Task → Answer) → (List ℕ → Task → List ℕ) → List ℕ → List ℕ
answer_by before lines s = answer_to before lines s (head_of s)

-- what a program's call leaves: the answer's length, its bytes at the head of the slice, and behind them what stood there before
pub record Exchanged (answer : List ℕ → List ℕ) (input was out : List ℕ) (r : ℕ) : Type 0 where
  pub long : r ≡ length (answer input)
  pub bytes : out ≡ answer input ++ drop (length (answer input)) was
