-- The header's frame. Assumes nothing.
use Rattle.std.specs.Prelude.{None, Some, ℕ, ◌+◌, Bool, cond, ◌&&◌, List, leb, eqb, length, get_or, Option}
use Rattle.hexdigits.specs.Hex.{all_hex, number_at, float, newline}
use Rattle.places.specs.declared.Layout.{Layout}
use Rattle.rule.specs.Codes.{by_code}
use Rattle.rule.specs.Tasks.{setup_of, task_of, laid}
use Rattle.rule.specs.declared.Solver.{Solver}
use Rattle.rule.specs.declared.Task.{Task}

-- the header's digits, and its frame: these and a newline
abbrev pub header_digits : ℕ
header_digits = 44

abbrev pub header_frame : ℕ
header_frame = header_digits + 1

-- a header is exactly its digits and a newline
unfoldable pub header_formed : List ℕ → Bool
header_formed s = leb header_frame (length s) && (all_hex s 0 header_digits && eqb (get_or s header_digits 0) newline)

-- after the solver's code: rows (4), columns (2), max_iter (4), threshold (16), lambda (16)
unfoldable pub header : List ℕ → Layout → Solver → Task
header s layout solver = laid layout (task_of solver (number_at s 2 4) (number_at s 6 2) (setup_of (float s 12) (float s 28) (number_at s 8 4)))

-- a code that stands for no solver and layout is malformed
abbrev pub head_by : List ℕ → Option (Layout × Solver) → Option Task
head_by s (Some (layout, solver)) = Some (header s layout solver)
head_by s None = None

-- solver (2), by its code
unfoldable pub head_of : List ℕ → Option Task
head_of s = cond (header_formed s) (head_by s (by_code (number_at s 0 2))) None
