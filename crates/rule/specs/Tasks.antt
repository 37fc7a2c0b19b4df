-- What a fit is asked for, by its parts. Assumes nothing.
use Rattle.std.specs.Prelude.{ℕ, Float}
use Rattle.places.specs.declared.Layout.{Layout}
use Rattle.places.specs.declared.Layout.TheVariants.{ByRows, ByColumns}
use Rattle.rule.specs.declared.Setup.{Setup}
use Rattle.rule.specs.declared.Solver.{Solver}
use Rattle.rule.specs.declared.Task.{Task}

-- threshold, lambda and max_iter as one setup
abbrev pub setup_of : Float → Float → ℕ → Setup
setup_of threshold lambda limit = record { threshold = threshold; lambda = lambda; max_iter = limit }

-- the solver, theta's rows and columns, and the setup as one task: theta by rows
abbrev pub task_of : Solver → ℕ → ℕ → Setup → Task
task_of solver rows n setup = record { solver = solver; layout = ByRows; rows = rows; cols = n; setup = setup }

-- the same task with theta stored in this way
abbrev pub laid : Layout → Task → Task
laid l task = record { solver = task.solver; layout = l; rows = task.rows; cols = task.cols; setup = task.setup }

-- the same task with theta by columns
abbrev pub by_columns : Task → Task
by_columns task = laid ByColumns task

-- the same task with another limit of rounds
abbrev pub with_limit : Task → ℕ → Task
with_limit task limit = laid task.layout (task_of task.solver task.rows task.cols (setup_of task.setup.threshold task.setup.lambda limit))
