-- `prune` meets its contract: a term more goes through the last pass.
use mathlib.Core.Path.{ap, ◌∙◌}
use mathlib.Core.Bool.{cond}
use Prim.Native.Nat.{ℕ}
use native.Mathlib.Omega.{arith}
use lib.ListN.{length}
use lib.Ieee.{Float, nan}
use Rattle.steps.specs.Num.{+zero, at}
use Rattle.steps.specs.Table.{is_tab}
use Rattle.steps.specs.Wrote.{wrote_none, wrote_more, wrote_now}
use Rattle.rule.specs.Fits.{clears}
use Rattle.coeffs.proofs.inner.prune.Goals as goal

pub loop-c-init : goal.loop-c-init
loop-c-init c = wrote_none _ _ _ _

pub loop-c-preserved : goal.loop-c-preserved
unfolding clears
loop-c-preserved c =
    let turn = c.loop-c in
    let a = c.args in
    let pass : ℕ → Float → Float = λ k x. cond (clears a.setup k x) +zero x in
    let cs₀ = a.coeffs.now in
    wrote_more (λ k. k) 0 turn.c-index (λ k. pass k (at cs₀ k)) cs₀ turn.coeffs _ (omega arith) (omega arith) (λ k h h' e. omega arith) turn.invariant
    (c.pruned.ensures ∙ ap (pass turn.c-index) (wrote_now (λ k. k) 0 turn.c-index _ cs₀ turn.coeffs (λ k h h' e. omega arith) turn.invariant))

pub returns : goal.returns
returns c =
    let turn = c.loop-c in
    let cs₀ = c.args.coeffs.now in
    is_tab (length cs₀) _ turn.coeffs nan turn.auto.coeffs (λ i h. turn.invariant.done i (omega arith) (omega arith))
