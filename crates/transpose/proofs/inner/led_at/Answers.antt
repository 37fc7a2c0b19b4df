-- `led_at` meets its contract: its test is that of `led`.
use Rattle.std.proofs.Common.{eq-eqb, ne_eqb}
use Rattle.transpose.specs.Led.{led}
use Rattle.transpose.proofs.inner.led_at.Goals as goal

pub returns-then-i-j : goal.returns-then-i-j
unfolding led
returns-then-i-j c = simp (eq-eqb _ _ c.if-i-j.true)

pub returns-else-i-j : goal.returns-else-i-j
unfolding led
returns-else-i-j c = simp (ne_eqb _ _ c.if-i-j.false)
