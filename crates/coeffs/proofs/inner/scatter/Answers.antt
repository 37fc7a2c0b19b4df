-- `scatter` meets its contract: a reduced place is at most its term number, so that no value is overwritten before it is read.
use mathlib.Core.Path.{◌≡◌, ap, ◌∙◌}
use mathlib.Core.Bool.{cond}
use Prim.Native.Nat.{◌-◌, ◌<◌}
use native.Mathlib.Omega.{arith}
use lib.Ieee.{Float}
use Rattle.steps.specs.Num.{+zero}
use Rattle.support.specs.Word.{has, place}
use Rattle.support.specs.CountLaws.{place_is, count_le}
use Rattle.rule.specs.Rule.{scatter}
use Rattle.coeffs.proofs.Spread.{spread_none, spread_more, spread_end}
use Rattle.coeffs.proofs.inner.scatter.Goals as goal

pub loop-j-init : goal.loop-j-init
loop-j-init c = spread_none _ _

pub loop-j-preserved : goal.loop-j-preserved
loop-j-preserved c =
    let turn = c.loop-j in
    let a = c.args in
    let w = a.support.0 in
    let j = turn.j - 1 in
    let pos : 0 < turn.j = omega arith in
    let early : place w j < turn.j = omega (arith, place_is w j, count_le (has w) j) in
    let value = c.value_of-x.ensures ∙ ap (λ (x : Float). cond (has w j) x +zero) (turn.invariant.rest (place w j) early) in
    rw c.put.ensures (spread_more turn.j _ a.coeffs.now turn.coeffs _ pos (omega arith) turn.invariant value)

pub returns : goal.returns
unfolding scatter
returns c =
    let turn = c.loop-j in
    let none : turn.j ≡ 0 = omega arith in
    spread_end _ c.args.coeffs.now turn.coeffs (rw none at turn.invariant)
