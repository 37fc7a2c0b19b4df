-- `strlsq` meets its contract: the first refusal that applies, else the fit, which then is ready.
use mathlib.Core.Path.{sym, ◌∙◌}
use Rattle.rule.specs.Sizes.{Ready, ready, ready_lent}
use Rattle.strlsq.proofs.strlsq.Goals.{In_ok-fit_sizes}
use Rattle.strlsq.proofs.strlsq.Goals as goal

is_ready : (c : In_ok-fit_sizes) → Ready c.args.task c.args.theta.now c.args.target.now c.args.coeffs.now c.args.workspace.now
is_ready c = ready (sym c.fit_sizes.ensures ∙ c.in_ok-fit_sizes.was)

pub invariant_of-given : goal.invariant_of-given
invariant_of-given c = record { sized = (is_ready (goal.at.invariant_of-given c).In_ok-fit_sizes).sized }

pub fit_ready-watched-requires : goal.fit_ready-watched-requires
fit_ready-watched-requires c = ready_lent (is_ready (goal.at.fit_ready-watched-requires c).In_ok-fit_sizes)

pub report-requires : goal.report-requires
report-requires c =
    (c.fit_ready-watched.auto.coeffs ∙ (is_ready (goal.at.report-requires c).In_ok-fit_sizes).coeffs_long, c.fit_ready-watched.ensures.0)
