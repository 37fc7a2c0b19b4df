-- `lu_back` meets its contract. The loop's invariant: what is left from row i on gives the whole answer.
use Rattle.std.proofs.Common.{◌≡◌, refl, sym, ◌∙◌, arith}
use Rattle.steps.specs.Loops.{down_none, down_more}
use Rattle.lu.specs.Lu.{lu_back}
use Rattle.lu.proofs.inner.lu_back.Goals as goal

pub loop-i-init : goal.loop-i-init
unfolding lu_back
loop-i-init c = refl

pub loop-i-preserved : goal.loop-i-preserved
loop-i-preserved c =
    let turn = c.loop-i in
    rw (c.at.ensures, c.row_sum-s.ensures) (sym (down_more _ turn.i turn.b c.loop-i-test.true) ∙ turn.invariant)

pub returns : goal.returns
returns c =
    let turn = c.loop-i in
    let end : turn.i ≡ 0 = omega arith in
    sym (down_none _ turn.b) ∙ (rw end at turn.invariant)
