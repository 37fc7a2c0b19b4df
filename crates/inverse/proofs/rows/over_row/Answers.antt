-- `over_row` meets its contract. The loop's invariant: the row's numbers in the columns passed have their new value.
use Rattle.std.proofs.Common.{◌+◌, ◌*◌, arith}
use Rattle.steps.specs.Num.{over}
use Rattle.steps.specs.Table.{row_fits}
use Rattle.steps.specs.Wrote.{wrote_none, wrote_turn, wrote_end}
use Rattle.inverse.proofs.rows.over_row.Goals as goal

pub loop-j-init : goal.loop-j-init
loop-j-init c = wrote_none _ _ _ _

pub loop-j-preserved : goal.loop-j-preserved
loop-j-preserved c =
    let turn = c.loop-j in
    let args = c.args in
    wrote_turn (λ k. args.i * args.n + k) (λ k z. over z args.d) 0 turn.j args.x.now turn.x (omega arith) (omega (arith, row_fits _ args.n _ c.requires.1)) (λ k h h' e. omega arith) turn.invariant

pub returns : goal.returns
returns c = let end = c.loop-j in wrote_end _ _ end.j _ _ _ _ end.invariant (omega arith) (omega arith)
