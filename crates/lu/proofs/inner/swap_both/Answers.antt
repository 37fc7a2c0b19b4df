-- `swap_both` meets its contract: a row that stands at its place already is left there.
use Rattle.std.proofs.Common.{eq-eqb, ne_eqb, arith}
use Rattle.lu.specs.Lu.{lu_swap}
use Rattle.lu.proofs.Swaps.{swap_swapped}
use Rattle.lu.proofs.inner.swap_both.Goals as goal

pub returns-then-r-k : goal.returns-then-r-k
unfolding lu_swap
returns-then-r-k c = rw (ne_eqb _ _ c.if-r-k.true, c.swap.ensures.after, c.swap_rows.ensures, swap_swapped c.args.k c.args.r c.args.b.now (omega arith) (omega arith))

pub returns-else-r-k : goal.returns-else-r-k
unfolding lu_swap
returns-else-r-k c = rw (eq-eqb _ _ c.if-r-k.false)
