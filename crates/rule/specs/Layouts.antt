-- A matrix as theta, in any layout. That the layout changes no fit is shown in proofs/Layouts. Assumes nothing.
use Rattle.std.specs.Prelude.{List, Float}
use Rattle.steps.specs.Num.{Entry}
use Rattle.places.specs.Stored.{laid_out}
use Rattle.rule.specs.declared.Task.{Task}

-- theta: the matrix e as the task says that it is stored
abbrev pub theta_of : Task → Entry → List Float
theta_of task e = laid_out task.layout task.rows task.cols e
