-- The places passed have the column's numbers.
use Prim.Native.Nat.{◌+◌, ◌*◌}
use Rattle.steps.specs.Num.{cell}
use Rattle.steps.specs.Wrote.{Wrote}
use Rattle.places.proofs.inner.take_column.Given as goal

abbrev pub invariant-loop-k : goal.invariant-loop-k
invariant-loop-k l = Wrote (λ k. k * l.width + l.first) 0 l.k (λ k. cell l.n_rows l.theta l.term_idx.0 (l.i + k)) l.initial.page l.page
