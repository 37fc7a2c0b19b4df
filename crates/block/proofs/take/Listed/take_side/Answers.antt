-- `take_side` meets its contract: a turn of the loop fills one place more, and after it all are filled.
use Rattle.std.proofs.Common.{◌≡◌, length, ◌∙◌, arith}
use Rattle.steps.specs.Table.{filled_none, filled_more, filled_end}
use Rattle.sums.specs.Products.{jtr_column}
use Rattle.block.proofs.take.Listed.take_side.Goals as goal

pub loop-p-init : goal.loop-p-init
loop-p-init c = filled_none _ _

pub loop-p-preserved : goal.loop-p-preserved
loop-p-preserved c =
    let turn = c.loop-p in
    rw (turn.invariant, c.product_at.ensures) (filled_more _ turn.p c.args.b.now (omega arith))

pub returns : goal.returns
unfolding jtr_column
returns c =
    let end = c.loop-p in
    let all : end.p ≡ length c.args.self.terms.now = omega arith in
    end.invariant ∙ rw all (filled_end _ _ c.args.b.now c.requires)
