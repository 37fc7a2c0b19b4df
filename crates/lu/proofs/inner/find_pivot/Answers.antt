-- `find_pivot` meets its contract. The loop's invariant: row is the pivot's row among those passed, size its magnitude.
use Rattle.std.proofs.Common.{sym, ◌∙◌, arith}
use Rattle.steps.specs.Loops.{loop_none, loop_more, loop_end}
use Rattle.lu.specs.Lu.{pivot_row}
use Rattle.lu.proofs.inner.find_pivot.Goals.{then-size-v, else-size-v}
use Rattle.lu.proofs.inner.find_pivot.Goals as goal

pub loop-i-init : goal.loop-i-init
loop-i-init c = (c.requires, sym (loop_none _ _ _), rw (c.abs-size.ensures, c.at.ensures))

pub loop-i-preserved : goal.loop-i-preserved
loop-i-preserved c =
    let turn = c.loop-i in
    let v = rw c.at-in-loop-i.ensures at c.abs-v.ensures in
    elim c.if-size-v.branch [
      | then-size-v w ↦ (omega (arith, w.row-is), w.row-is ∙ loop_more _ turn.i _ _ turn.auto.i turn.invariant.1 (rw (← turn.invariant.2, ← v, w.if-size-v.true)), w.size-is ∙ rw w.row-is v)
      | else-size-v w ↦ (omega (arith, w.row-is), w.row-is ∙ loop_more _ turn.i _ _ turn.auto.i turn.invariant.1 (rw (← turn.invariant.2, ← v, w.if-size-v.false)), w.size-is ∙ rw w.row-is turn.invariant.2)
    ]

pub returns : goal.returns
unfolding pivot_row
returns c =
    let turn = c.loop-i in
    record {
      is = loop_end _ turn.i _ _ _ turn.invariant.1 (omega arith) (omega arith);
      greatest = turn.invariant.2;
      within = turn.invariant.0;
    }
