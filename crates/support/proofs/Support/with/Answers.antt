-- `with` puts the term's bit in. Assumes nothing.
use native.Mathlib.Omega.{arith}
use Rattle.support.proofs.Masks.{with_is}
use Rattle.support.proofs.Support.with.Goals as goal

pub returns : goal.returns
returns c = rw c.alone.ensures (with_is _ _ (omega arith))
