-- The places passed have their numbers.
use Prim.Native.Nat.{◌+◌, ◌*◌}
use Rattle.steps.specs.Num.{cell}
use Rattle.steps.specs.Wrote.{Wrote}
use Rattle.sums.proofs.inner.columns.fill_tile.Given as goal

abbrev pub invariant-loop-q : goal.invariant-loop-q
invariant-loop-q l = Wrote (λ q. l.k * l.theta.cols + (l.j + q)) 0 l.q (λ q. cell l.theta.rows l.theta.numbers.now (l.j + q) l.i) l.initial.page l.page
