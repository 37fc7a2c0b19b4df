-- `sign_of` meets its contract: its test is that of `sign`.
use Rattle.householder.specs.Qr.{sign}
use Rattle.householder.proofs.inner.sign_of.Goals as goal

pub returns-then-x : goal.returns-then-x
unfolding sign
returns-then-x c = simp c.if-x.true

pub returns-else-x : goal.returns-else-x
unfolding sign
returns-else-x c = simp c.if-x.false
