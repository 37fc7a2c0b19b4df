-- `less_row` meets its contract. The loop's invariant: the row's numbers in the columns passed have their new value.
use Rattle.std.proofs.Common.{◌≡◌, ℕ, ◌+◌, ◌*◌, ap, ap₂, arith}
use Rattle.std.specs.Prelude.{Float}
use Rattle.steps.specs.Num.{less, times, cell}
use Rattle.steps.specs.Table.{row_fits}
use Rattle.steps.specs.Wrote.{wrote_none, wrote_more, wrote_end}
use Rattle.inverse.proofs.RowLaws.{still}
use Rattle.inverse.proofs.rows.less_row.Goals as goal

pub loop-j-init : goal.loop-j-init
loop-j-init c = wrote_none _ _ _ _

pub loop-j-preserved : goal.loop-j-preserved
loop-j-preserved c =
    let turn = c.loop-j in
    let args = c.args in
    let n = args.n in
    let passed = turn.invariant in
    let number : (r : ℕ) → cell n turn.x r turn.j ≡ cell n args.x.now r turn.j = λ r. still n args.i r turn.j _ c.loop-j-test.true passed in
    let new = ap₂ less (number args.i) (ap (λ (z : Float). times args.f z) (number args.k)) in
    wrote_more (λ k. args.i * n + k) 0 turn.j _ args.x.now turn.x _ (omega arith) (omega (arith, row_fits _ n _ c.requires.1)) (λ k h h' e. omega arith) passed new

pub returns : goal.returns
returns c = let end = c.loop-j in wrote_end _ _ end.j _ _ _ _ end.invariant (omega arith) (omega arith)
