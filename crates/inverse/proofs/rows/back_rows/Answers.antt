-- `back_rows` meets its contract. The loop's invariant: what is left from row i on gives the whole answer, in each column.
use Rattle.std.proofs.Common.{◌≡◌, refl, sym, ◌∙◌, arith}
use Rattle.steps.specs.Loops.{down_none, down_more}
use Rattle.cholesky.specs.Cholesky.{chol_back}
use Rattle.inverse.proofs.rows.back_rows.Goals as goal

pub loop-i-init : goal.loop-i-init
unfolding chol_back
loop-i-init c = λ j h. refl

pub loop-i-preserved : goal.loop-i-preserved
loop-i-preserved c =
    let turn = c.loop-i in
    λ j h. rw (c.back_row.ensures.each j h) (sym (down_more _ turn.i _ c.loop-i-test.true) ∙ turn.invariant j h)

pub returns : goal.returns
returns c =
    let last = c.loop-i in
    let end : last.i ≡ 0 = omega arith in
    record { square = omega arith; each = λ j h. sym (down_none _ _) ∙ rw end at (last.invariant j h) }
