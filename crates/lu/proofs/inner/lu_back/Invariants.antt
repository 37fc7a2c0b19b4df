-- `lu_back` meets its contract. The loop's invariant: what is left from row i on gives the whole answer.
use Rattle.std.proofs.Common.{◌≡◌, ◌+◌, set}
use Rattle.steps.specs.Num.{times, over, at, cell}
use Rattle.steps.specs.Loops.{down_from}
use Rattle.steps.specs.Sums.{less_sum}
use Rattle.lu.specs.Lu.{lu_back}
use Rattle.lu.proofs.inner.lu_back.Given as goal

abbrev pub invariant-loop-i : goal.invariant-loop-i
invariant-loop-i l =
    let n = l.a.n in
    let e = cell n l.a.numbers.now in
    down_from l.i (λ r x. set x r (over (less_sum (at x r) (r + 1) n (λ k. times (e r k) (at x k))) (e r r))) l.b ≡ lu_back n l.a.numbers.now l.initial.b
