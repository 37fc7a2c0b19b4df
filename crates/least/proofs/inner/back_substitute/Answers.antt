-- `back_substitute` meets its contract. The loop's invariant: what is left to do from here gives the whole answer.
use Rattle.std.proofs.Common.{◌≡◌, refl, sym, ◌∙◌, arith}
use Rattle.std.proofs.lemmas.Result.{err_from_is_err_and}
use Rattle.steps.specs.Loops.{way_down_none}
use Rattle.least.specs.Least.{back}
use Rattle.least.proofs.Back.{back_goes, back_stops}
use Rattle.least.proofs.inner.back_substitute.Goals as goal

pub loop-j-init : goal.loop-j-init
unfolding back
loop-j-init c = refl

pub loop-j-preserved : goal.loop-j-preserved
loop-j-preserved c =
    let turn = c.loop-j in
    sym (back_goes _ turn.j _ _ _ _ c.loop-j-test.true c.back_column.ensures c.in_ok-back_column.was) ∙ turn.invariant

pub returns-in_err-back_column : goal.returns-in_err-back_column
returns-in_err-back_column c =
    let turn = c.loop-j in
    let p = err_from_is_err_and c.from_residual.result c.from_residual.ensures.1 in
    rw (p.1, p.2) (back_stops _ turn.j _ _ _ _ c.loop-j-test.true c.in_err-back_column.ensures refl ∙ turn.invariant)

pub returns : goal.returns
returns c =
    let turn = c.loop-j in
    let end : turn.j ≡ 0 = omega arith in
    sym (way_down_none _ _) ∙ (rw end at turn.invariant)
