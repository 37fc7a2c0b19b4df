-- `row_less` meets its contract. The loop's invariant: s is a(i,j) less the products of the columns passed.
use Rattle.std.proofs.Common.{◌≡◌}
use Rattle.steps.specs.Num.{times, cell}
use Rattle.steps.specs.Sums.{less_sum}
use Rattle.cholesky.proofs.inner.row_less.Given as goal

abbrev pub invariant-loop-k : goal.invariant-loop-k
invariant-loop-k l = let e = cell l.a.n l.a.numbers.now in l.s ≡ less_sum (e l.i l.j) 0 l.k (λ c. times (e l.i c) (e l.j c))
