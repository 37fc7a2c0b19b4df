-- `walk` meets its contract: a row more.
use mathlib.Core.Path.{refl, ◌∙◌}
use native.Mathlib.Omega.{arith}
use Rattle.leftover.proofs.Walks.{row_more, rows_end}
use Rattle.leftover.proofs.inner.walk.Goals as goal

pub loop-i-preserved : goal.loop-i-preserved
loop-i-preserved c =
    let turn = c.loop-i in
    c.add_square-error.ensures ∙ row_more _ _ _ _ turn.i turn.invariant refl c.row_products-sum.ensures

pub returns : goal.returns
returns c =
    rows_end _ _ _ _ c.loop-i.i _ c.loop-i.invariant (omega arith)
