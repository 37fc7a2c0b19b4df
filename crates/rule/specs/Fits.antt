-- The three fits: the rule at three solves. Assumes nothing.
use Rattle.std.specs.Prelude.{ℕ, ◌+◌, ◌-◌, Bool, cond, List, eqb, ltb, Float}
use Rattle.std.specs.Int.Count.{ones}
use Rattle.std.specs.Float.Ieee.{lt, le}
use Rattle.steps.specs.Num.{+zero, at, Entry}
use Rattle.steps.specs.Table.{tab, table}
use Rattle.float64.specs.Root.{root_of, abs_of}
use Rattle.refusal.specs.Answers.{Solution, solution}
use Rattle.places.specs.Stored.{stored}
use Rattle.places.specs.Columns.{columns}
use Rattle.sums.specs.Products.{gram, moment, ridge, marquardt, jtj_matrix, jtr_column}
use Rattle.normal.specs.Normal.{normal}
use Rattle.least.specs.Least.{least}
use Rattle.leftover.specs.Error.{squared_error}
use Rattle.rule.specs.Rule.{Problem, Fit, fit}
use Rattle.rule.specs.declared.Setup.{Setup}
use Rattle.rule.specs.declared.Solver.{Solver}
use Rattle.rule.specs.declared.Solver.TheVariants.{Normal, Qr, Marquardt}
use Rattle.rule.specs.declared.Task.{Task}

-- the support is every term with |c| at least the threshold (NaN never is); the term number j is not looked at yet: a later order holds terms
unfoldable pub keeps : Setup → ℕ → Float → Bool
keeps setup j c = le setup.threshold (abs_of c)

-- the last pass clears each term with |c| below the threshold; nor is j looked at here
unfoldable pub clears : Setup → ℕ → Float → Bool
clears setup j c = lt (abs_of c) setup.threshold

-- a way to solve c columns that are given by their entries
abbrev pub Solves : Type 0
Solves = ℕ → Entry → Solution

-- by the normal equations of c columns, from the pair sums g and the target products m, however these were made (from the rows, or kept) and are damped
unfoldable pub by_sums : (Float → Float) → ℕ → Entry → (ℕ → Float) → Solution
by_sums damp c g m = solution (normal c (jtj_matrix damp c g) (jtr_column c m))

-- `strlsq` and `strlsq_marquardt`: by normal equations, each with its damping
unfoldable pub by_normal : (Float → Float) → (ℕ → Float) → ℕ → Solves
by_normal damp t rows c e = by_sums damp c (gram e rows) (moment e t rows)

-- theta with c more rows, the root of lambda on their diagonal
unfoldable pub augmented : ℕ → Float → Entry → Entry
augmented rows root e i p = cond (ltb i rows) (e i p) (cond (eqb (i - rows) p) root +zero)

-- the target with c zeros
unfoldable pub padded : ℕ → (ℕ → Float) → ℕ → Float
padded rows t i = cond (ltb i rows) (t i) +zero

-- `strlsq_qr`: by least squares
unfoldable pub by_least : Float → (ℕ → Float) → ℕ → Solves
by_least lambda t rows c e = least (rows + c) c (table (rows + c) c (augmented rows (root_of lambda) e)) (tab (rows + c) (padded rows t))

-- the solve that a solver stands for
unfoldable pub solves : Solver → Float → (ℕ → Float) → ℕ → Solves
solves Normal lambda t rows = by_normal (ridge lambda) t rows
solves Qr lambda t rows = by_least lambda t rows
solves Marquardt lambda t rows = by_normal (marquardt lambda) t rows

-- the problem of a fit: all columns first, then the supported columns in rising order; the error over the kept columns
unfoldable pub problem : Task → Solves → Entry → (ℕ → Float) → Problem
problem task by e t = record {
  rows = task.rows;
  cols = task.cols;
  keeps = keeps task.setup;
  clears = clears task.setup;
  whole = by task.cols e;
  solve = λ w. by (ones w) (columns task.cols w e);
  error = squared_error task.rows task.cols e t;
}

-- the problem of a matrix e and a target t, by the task's solver, and its fit within the task's rounds
abbrev pub problem_by : Task → Entry → (ℕ → Float) → Problem
problem_by task e t = problem task (solves task.solver task.setup.lambda t task.rows) e t

unfoldable pub fit_by : Task → Entry → (ℕ → Float) → Fit
fit_by task e t = fit (problem_by task e t) task.setup.max_iter

-- the matrix that theta holds, as the task says that it is stored
unfoldable pub matrix_of : Task → List Float → Entry
matrix_of task theta = stored task.layout task.rows task.cols theta

-- the same of theta and target as a call is lent them
abbrev pub problem_of : Task → List Float → List Float → Problem
problem_of task theta target = problem_by task (matrix_of task theta) (at target)

abbrev pub fit_of : Task → List Float → List Float → Fit
fit_of task theta target = fit_by task (matrix_of task theta) (at target)
