-- A fit within the programs' limits is ready in the largest workspace. Assumes nothing.
use Rattle.std.specs.Prelude.{◌≡◌, List, ℕ, ◌+◌, ◌≤◌, length, Float}
use Rattle.std.proofs.Common.{mul-le-mul, arith}
use Rattle.rule.specs.Sizes.{fit_need, Limited, Sized, Ready}
use Rattle.rule.specs.declared.Solver.{Solver}
use Rattle.rule.specs.declared.Solver.TheVariants.{Normal, Qr, Marquardt}
use Rattle.rule.specs.declared.Task.{Task}
use Rattle.exchange.specs.Limits.{most_cols, most_rows, most_space}

-- the largest workspace is that of the most rows and columns by QR
need_most : (solver : Solver) (rows cols : ℕ) → rows ≤ most_rows → cols ≤ most_cols → fit_need solver rows cols ≤ most_space
unfolding fit_need
need_most Normal rows cols h k = omega (arith, mul-le-mul k k)
need_most Qr rows cols h k = let s : rows + cols ≤ most_rows + most_cols = omega arith in omega (arith, mul-le-mul s k)
need_most Marquardt rows cols h k = omega (arith, mul-le-mul k k)

pub ready_within : {task : Task} {theta target cs ws : List Float} → Limited most_cols most_rows task
    → Sized task theta target → length cs ≡ task.cols → length ws ≡ most_space → Ready task theta target cs ws
ready_within {task} l sized long room =
    record { sized = sized; coeffs_long = long; space_long = omega (arith, room, need_most task.solver task.rows task.cols l.few_rows l.few_cols) }
