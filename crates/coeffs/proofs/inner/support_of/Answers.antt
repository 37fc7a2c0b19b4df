-- `support_of` meets its contract: a look at one more term.
use mathlib.Core.Path.{◌≡◌, sym, ◌∙◌}
use native.Mathlib.Omega.{arith}
use lib.ListN.{length}
use Rattle.steps.specs.Num.{at}
use Rattle.support.specs.WordLaws.{word_none}
use Rattle.rule.specs.Fits.{keeps}
use Rattle.coeffs.proofs.Spread.{word_more}
use Rattle.coeffs.proofs.inner.support_of.Goals as goal

pub loop-j-init : goal.loop-j-init
loop-j-init c = c.empty-s.ensures ∙ sym (word_none _)

pub loop-j-preserved : goal.loop-j-preserved
loop-j-preserved c =
    let turn = c.loop-j in
    let a = c.args in
    word_more (λ k. keeps a.setup k (at a.coeffs.now k)) turn.j turn.s.0 _ (omega arith) turn.invariant c.look_at-s.ensures

pub returns : goal.returns
returns c =
    let turn = c.loop-j in
    let all : turn.j ≡ length c.args.coeffs.now = omega arith in
    rw all at turn.invariant
