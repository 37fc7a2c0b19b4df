-- The sums have taken the rows passed.
use Rattle.pairs.specs.Grown.{with_rows}
use Rattle.pairs.specs.Tiles.{FourOf}
use Rattle.pairs.proofs.kernel.sum_four.Given as goal

abbrev pub invariant-loop-i : goal.invariant-loop-i
invariant-loop-i l = FourOf (with_rows l.page.numbers.now l.page.cols l.i l.out l.p) l.q l.s
