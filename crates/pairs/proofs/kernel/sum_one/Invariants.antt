-- The sum has taken the rows passed.
use mathlib.Core.Path.{◌≡◌}
use Rattle.pairs.specs.Grown.{with_rows}
use Rattle.pairs.proofs.kernel.sum_one.Given as goal

abbrev pub invariant-loop-i : goal.invariant-loop-i
invariant-loop-i l = l.s ≡ with_rows l.page.numbers.now l.page.cols l.i l.out l.p l.q
