-- `column_sums` meets its contract. The loop's invariant: the sums are those over the rows passed.
use Rattle.std.specs.Prelude.{◌≡◌, ℕ, Float}
use Rattle.std.proofs.Common.{ap, ◌∙◌, arith}
use Rattle.steps.specs.Num.{times, cell}
use Rattle.steps.specs.Sums.{sum_more}
use Rattle.transpose.specs.Led.{along}
use Rattle.householder.proofs.inner.column_sums.Goals as goal

pub loop-i-init : goal.loop-i-init
loop-i-init c = c.requires.2

pub loop-i-preserved : goal.loop-i-preserved
unfolding along
loop-i-preserved c =
    let turn = c.loop-i in
    let args = c.args in
    let led = c.led_at-v.ensures in
    let row = c.add_row in
    let term : (k : ℕ) → Float = λ k. cell args.n args.a.now turn.i k in
    record { each = λ k h h'. row.ensures.done k h h' ∙ sum_more _ _ turn.i _ turn.auto.i (turn.invariant.each k h h') (ap (λ (z : Float). times z (term k)) led) }

pub returns : goal.returns
returns c =
    let end = c.loop-i in
    let all : end.i ≡ c.args.m = omega arith in
    rw all at end.invariant
