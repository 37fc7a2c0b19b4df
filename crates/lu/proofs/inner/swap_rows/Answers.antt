-- `swap_rows` meets its contract. The loop's invariant: the columns passed have changed places.
use Rattle.std.proofs.Common.{sym, ◌∙◌, arith}
use Rattle.std.proofs.Math.Arith.{digits_lt}
use Rattle.steps.specs.Loops.{loop_none, loop_more, loop_end}
use Rattle.lu.specs.Lu.{swap_rows}
use Rattle.lu.proofs.Swaps.{swap_swapped}
use Rattle.lu.proofs.inner.swap_rows.Goals as goal

pub loop-j-init : goal.loop-j-init
loop-j-init c = sym (loop_none _ _ _)

pub loop-j-preserved : goal.loop-j-preserved
loop-j-preserved c =
    let turn = c.loop-j in
    loop_more 0 turn.j _ _ (omega arith) turn.invariant
    (c.swap.ensures.after ∙ swap_swapped _ _ _ (omega (arith, digits_lt c.requires.1 c.loop-j-test.true)) (omega (arith, digits_lt c.requires.2 c.loop-j-test.true)))

pub returns : goal.returns
unfolding swap_rows
returns c = let turn = c.loop-j in loop_end 0 turn.j _ _ _ turn.invariant (omega arith) (omega arith)
