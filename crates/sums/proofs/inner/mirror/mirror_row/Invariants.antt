-- The places passed hold the numbers above the diagonal, all else is as it was.
use Prim.Native.Nat.{◌+◌, ◌*◌}
use Rattle.steps.specs.Num.{cell}
use Rattle.steps.specs.Wrote.{Wrote}
use Rattle.sums.proofs.inner.mirror.mirror_row.Given as goal

abbrev pub invariant-loop-q : goal.invariant-loop-q
invariant-loop-q l = Wrote (λ c. l.p * l.n_cols + c) 0 l.q (λ c. cell l.n_cols l.initial.out c l.p) l.initial.out l.out
