-- `page_at` meets its contract: at most 32 rows have room.
use Prim.Native.Nat.{◌≤◌}
use native.Mathlib.Nat.{mul-le-mul_right}
use native.Mathlib.Omega.{arith}
use Rattle.sums.proofs.inner.pages.page_at.Goals as goal

pub invariant_of-result : goal.invariant_of-result
invariant_of-result c =
    let few : c.min-h.result ≤ 32 = omega arith in
    record { room = omega (arith, mul-le-mul_right c.args.theta.cols few) }
