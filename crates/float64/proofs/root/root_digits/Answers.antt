-- `float64::root::root_digits` meets its contract. The loop's invariant is `Turn`. Assumes nothing.
use Rattle.std.proofs.Common.{◌^◌, ◌<◌, arith}
use Rattle.float64.proofs.Turns.{q_fits, one, nil, done, start}
use Rattle.float64.proofs.root.root_digits.Goals.{In-loop, then-next-trial, else-next-trial}
use Rattle.float64.proofs.root.root_digits.Goals as goal

fit : (c : In-loop) → c.loop.q < 2 ^ 53
fit c = q_fits _ _ _ _ _ c.loop.invariant (omega arith)

pub loop-init : goal.loop-init
loop-init c = start _ c.requires

pub overflow_mul-next : goal.overflow_mul-next
overflow_mul-next c = omega (arith, fit (goal.at.overflow_mul-next c).In-loop)

pub overflow_add-next : goal.overflow_add-next
overflow_add-next c = omega (arith, fit (goal.at.overflow_add-next c).In-loop)

pub overflow_mul-trial : goal.overflow_mul-trial
overflow_mul-trial c = omega (arith, fit (goal.at.overflow_mul-trial c).In-loop)

pub overflow_add-trial : goal.overflow_add-trial
overflow_add-trial c = omega (arith, fit (goal.at.overflow_add-trial c).In-loop)

pub overflow_mul-q : goal.overflow_mul-q
overflow_mul-q c = omega (arith, fit (goal.at.overflow_mul-q c).In-loop)

pub overflow_add-q : goal.overflow_add-q
overflow_add-q c = omega (arith, fit (goal.at.overflow_add-q c).In-loop)

pub overflow_mul-q-else-next-trial : goal.overflow_mul-q-else-next-trial
overflow_mul-q-else-next-trial c = omega (arith, fit (goal.at.overflow_mul-q-else-next-trial c).In-loop)

pub loop-preserved : goal.loop-preserved
loop-preserved c =
    elim c.if-next-trial.branch [
      | then-next-trial w ↦ rw (w.q-is, w.rem-is) (one _ _ _ _ _ c.loop.invariant (omega arith) w.if-next-trial.true)
      | else-next-trial w ↦ rw (w.q-is, w.rem-is) (nil _ _ _ _ _ c.loop.invariant (omega arith) w.if-next-trial.false)
    ]

pub returns : goal.returns
returns c = done _ _ _ _ _ c.loop.invariant c.loop-test.false
