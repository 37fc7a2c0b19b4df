-- `why` meets its contract: the first refusal that applies, else the cause of the term that the fit watched.
use mathlib.Core.Path.{sym, ◌∙◌}
use Rattle.rule.specs.Sizes.{Ready, ready_lent}
use Rattle.why.specs.Sizes.{why_ready}
use Rattle.why.proofs.Answer.{cause_found, why_accepted}
use Rattle.why.proofs.why.Goals.{In_ok-why_sizes}
use Rattle.why.proofs.why.Goals as goal

is_ready : (c : In_ok-why_sizes) → Ready c.args.task c.args.theta.now c.args.target.now c.args.coeffs.now c.args.workspace.now
is_ready c = why_ready c.args.task c.args.term_idx.0 (sym c.why_sizes.ensures ∙ c.in_ok-why_sizes.was)

pub invariant_of-given : goal.invariant_of-given
invariant_of-given c = record { sized = (is_ready (goal.at.invariant_of-given c).In_ok-why_sizes).sized }

pub fit_ready-watched-requires : goal.fit_ready-watched-requires
fit_ready-watched-requires c = ready_lent (is_ready (goal.at.fit_ready-watched-requires c).In_ok-why_sizes)

pub returns : goal.returns
returns c =
    let a = c.args in
    let fitted = c.fit_ready-watched.ensures in
    why_accepted a.task a.theta.now a.target.now a.term_idx.0 c.why_sizes.result a.coeffs.now _ a.workspace.now _ c.cause_of.result
    c.why_sizes.ensures c.in_ok-why_sizes.was (c.cause_of.ensures ∙ cause_found a.task a.theta.now a.target.now a.term_idx.0 fitted.0 fitted.1) fitted.0.coeffs fitted.2
