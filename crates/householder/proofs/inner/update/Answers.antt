-- `update` meets its contract. The loop's invariant: of whatever matrix z the leading row's step was taken, the rows above i have had theirs.
use Rattle.std.specs.Prelude.{◌≡◌}
use Rattle.std.proofs.Common.{arith}
use Rattle.householder.proofs.Rows.{reflected_lead, reflected_row, reflected_end}
use Rattle.householder.proofs.inner.update.Goals.{In-loop-i}
use Rattle.householder.proofs.inner.update.Goals as goal

pub loop-i-init : goal.loop-i-init
loop-i-init c = λ z size w. w

pub loop-i-preserved : goal.loop-i-preserved
loop-i-preserved c =
    let turn = c.loop-i in
    let args = c.args in
    let row = c.less_row-in-loop-i in
    let stored = c.put in
    λ z size rows. reflected_row args.m args.n args.j args.x args.t.now z size c.requires.0.wide
    turn.i _ turn.a row.new.a (omega (arith, turn)) c.loop-i-test.true (turn.invariant z size rows) c.cell-v.ensures row.ensures _ stored.ensures

pub returns : goal.returns
returns c =
    let a = c.args.a.now in
    let t = c.args.t.now in
    let shape = c.requires.0 in
    let end = c.loop-i in
    let all : end.i ≡ c.args.m = omega arith in
    let first = reflected_lead c.args.m c.args.n c.args.j c.args.x t a shape.size shape.wide _ c.less_row.ensures in
    reflected_end c.args.m c.args.n c.args.j c.args.x t a shape.size shape.wide _ (rw all at (end.invariant a shape.size first))
