-- `units` meets its contract. The loop's invariant: the diagonal numbers passed are 1.0, all else is +0.0.
use Rattle.std.proofs.Common.{ℕ, ◌+◌, ◌*◌, replicate, refl, ap, ◌∙◌, arith}
use Rattle.std.proofs.Math.Arith.{digits_lt}
use Rattle.steps.specs.Num.{+zero, one}
use Rattle.steps.specs.Wrote.{wrote_none, wrote_more, wrote_end, diagonal_apart}
use Rattle.inverse.proofs.ColumnLaws.{units_columns}
use Rattle.inverse.proofs.inner.units.Goals as goal

pub loop-i-init : goal.loop-i-init
loop-i-init c = wrote_none _ _ _ _

pub loop-i-preserved : goal.loop-i-preserved
loop-i-preserved c =
    let h = c.loop-i-test.true in
    let turn = c.loop-i in
    let n = c.args.n in
    rw c.put.ensures
    (wrote_more (λ r. r * n + r) 0 turn.i _ _ turn.x one (omega arith) (omega (arith, digits_lt h h)) (diagonal_apart n turn.i h) turn.invariant refl)

pub returns : goal.returns
returns c =
    let end = c.loop-i in
    let zeros = c.fill.ensures.after (λ y e. e) ∙ ap (λ (k : ℕ). replicate k +zero) c.requires in
    units_columns c.args.n _ end.x zeros (wrote_end _ 0 end.i _ _ _ end.x end.invariant (omega arith) (omega arith))
