-- `take_row` meets its contract: a turn of the loop puts one place more.
use Rattle.std.proofs.Common.{◌+◌, ◌*◌, length, arith}
use Rattle.std.proofs.Math.Arith.{digits_lt}
use Rattle.steps.specs.Wrote.{wrote_none, wrote_more, wrote_end}
use Rattle.block.proofs.take.Listed.take_row.Goals as goal

pub loop-q-init : goal.loop-q-init
loop-q-init c = wrote_none _ _ _ _

pub loop-q-preserved : goal.loop-q-preserved
loop-q-preserved c =
    let turn = c.loop-q in
    let k = length c.args.self.terms.now in
    let inside = digits_lt c.requires.1 c.loop-q-test.true in
    rw c.put_pair.ensures (wrote_more (λ q. c.args.p.0 * k + q) 0 turn.q _ c.args.block.now turn.block _ (omega arith) (omega (arith, inside)) (λ r h h' e. omega arith) turn.invariant c.pair_at-x.ensures)

pub returns : goal.returns
returns c = let end = c.loop-q in wrote_end _ _ end.q _ _ _ _ end.invariant (omega arith) (omega arith)
