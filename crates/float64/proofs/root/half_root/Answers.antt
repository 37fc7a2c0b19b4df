-- `float64::root::half_root` meets its contract. Assumes nothing.
use Rattle.std.proofs.Common.{◌^◌, arith}
use Rattle.float64.proofs.Square.{below}
use Rattle.float64.proofs.root.half_root.Goals as goal

pub returns-then-nearest : goal.returns-then-nearest
returns-then-nearest c = c.nearest.ensures c.if-nearest.true

pub overflow_add-result : goal.overflow_add-result
overflow_add-result c = omega (arith, below _ (2 ^ 54) c.root_digits-q.result (omega arith) c.root_digits-q.ensures.lo)
