-- `look_at` meets its contract: it asks `kept`.
use mathlib.Core.Path.{sym, ◌∙◌}
use Rattle.rule.specs.Fits.{keeps}
use Rattle.coeffs.proofs.inner.look_at.Goals as goal

pub returns-then-kept : goal.returns-then-kept
unfolding keeps
returns-then-kept c = c.with.ensures ∙ sym (rw (← c.kept.ensures, c.if-kept.true))

pub returns-else-kept : goal.returns-else-kept
unfolding keeps
returns-else-kept c = sym (rw (← c.kept.ensures, c.if-kept.false))
