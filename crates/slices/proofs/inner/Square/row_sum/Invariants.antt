-- `row_sum` meets its contract. The loop's invariant: s is b(i) less the products of the columns passed.
use Rattle.std.proofs.Common.{◌≡◌}
use Rattle.steps.specs.Num.{times, at, cell}
use Rattle.steps.specs.Sums.{less_sum}
use Rattle.slices.proofs.inner.Square.row_sum.Given as goal

abbrev pub invariant-loop-k : goal.invariant-loop-k
invariant-loop-k l = l.s ≡ less_sum (at l.b l.i) l.lo l.k (λ c. times (cell l.self.n l.self.numbers.now l.i c) (at l.b c))
