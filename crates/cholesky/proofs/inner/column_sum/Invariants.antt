-- `column_sum` meets its contract. The loop's invariant: s is b(i) less the products of the rows passed.
use Rattle.std.proofs.Common.{◌≡◌, ◌+◌}
use Rattle.steps.specs.Num.{times, at, cell}
use Rattle.steps.specs.Sums.{less_sum}
use Rattle.cholesky.proofs.inner.column_sum.Given as goal

abbrev pub invariant-loop-k : goal.invariant-loop-k
invariant-loop-k l = l.s ≡ less_sum (at l.b l.i) (l.i + 1) l.k (λ r. times (cell l.l.n l.l.numbers.now r l.i) (at l.b r))
