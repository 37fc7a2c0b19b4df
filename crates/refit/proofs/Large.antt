-- How large the parts of a solve over a support are. Assumes nothing.
use mathlib.Core.Path.{◌≡◌, ap}
use Prim.Native.Nat.{ℕ, ◌+◌, ◌*◌, ◌≤◌}
use native.Mathlib.Nat.{mul-le-mul}
use native.Mathlib.Omega.{arith}
use lib.Count.{ones-le}
use Rattle.sums.specs.Kept.{kept_size}
use Rattle.sums.specs.declared.inner.Damping.{Damping}
use Rattle.rule.specs.Sizes.{fit_need, task_need}
use Rattle.rule.specs.declared.Task.{Task}
use Rattle.rule.specs.declared.given.Given.{Given}
use Rattle.rule.specs.declared.Solver.{Solver}
use Rattle.rule.specs.declared.Solver.TheVariants.{Qr}
use Rattle.refit.specs.Parts.{Counted}
use Rattle.refit.proofs.Methods.{FromSums}

-- the numbers of the matrix that least squares solves, and with its right-hand side
abbrev pub cells : Task → ℕ → ℕ
cells task k = (task.rows + k) * k

abbrev pub both : Task → ℕ → ℕ
both task k = cells task k + (task.rows + k)

-- a fit's workspace by the normal equations has room for the kept sums
pub sums_fit : (task : Task) {n : ℕ} {d : Damping} → FromSums task.solver task.setup.lambda d → task_need task ≤ n → kept_size task.cols ≤ n
sums_fit task from room = omega (arith, from.need task.rows task.cols)

module _ {g : Given} {w k : ℕ} (s : Counted g w k) where
  abbrev task : Task
  task = g.task

  pub few : k ≤ task.cols
  few = omega (arith, ones-le task.cols w s.within)

  pub narrow : k ≤ 64
  narrow = omega (arith, few)

  pub area : cells task k ≤ 266240
  area = let tall : task.rows + k ≤ 4160 = omega (arith, narrow) in omega (arith, mul-le-mul tall narrow)

  -- what a fit's workspace of n numbers has room for
  module _ {n : ℕ} (room : task_need task ≤ n) where
    -- the kept sums and a block of them
    pub block_fits : {d : Damping} → FromSums task.solver task.setup.lambda d → kept_size task.cols + k * k ≤ n
    block_fits from = omega (arith, from.need task.rows task.cols, mul-le-mul few few)

    -- the matrix of least squares and its right-hand side
    pub least_fits : task.solver ≡ Qr → both task k ≤ n
    unfolding fit_need
    least_fits is =
        let need = ap (λ (s : Solver). fit_need s task.rows task.cols) is in
        let tall : task.rows + k ≤ task.rows + task.cols = omega (arith, few) in
        omega (arith, need, few, mul-le-mul tall few)
