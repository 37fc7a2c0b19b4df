-- `copy` meets its contract: a turn of the loop copies one place more, and after it all are copied.
use Rattle.std.proofs.Common.{◌≡◌, length, arith, refl, ◌∙◌, sym}
use lib.Ieee.{nan}
use lib.Seq.{ext_get_or}
use Rattle.steps.specs.Num.{at}
use Rattle.steps.specs.Wrote.{wrote_none, wrote_more}
use Rattle.slices.proofs.inner.copy.Goals as goal

pub loop-k-init : goal.loop-k-init
loop-k-init c = wrote_none _ _ _ _

pub loop-k-preserved : goal.loop-k-preserved
loop-k-preserved c =
    let turn = c.loop-k in
    wrote_more (λ k. k) 0 turn.k (at c.args.from.now) _ turn.to _ (omega arith) (omega arith) (λ k h h' e. omega arith) turn.invariant refl

pub returns : goal.returns
returns c =
    let turn = c.loop-k in
    let long : length turn.to ≡ length c.args.from.now = turn.auto.to ∙ sym c.requires in
    ext_get_or nan turn.to c.args.from.now long (λ k h. turn.invariant.done k (omega arith) (omega arith))
