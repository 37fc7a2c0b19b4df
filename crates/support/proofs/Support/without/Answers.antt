-- `without` puts the term's bit in, and then turns it over. Assumes nothing.
use native.Mathlib.Omega.{arith}
use Rattle.support.proofs.Masks.{without_is}
use Rattle.support.proofs.Support.without.Goals as goal

pub returns : goal.returns
returns c = rw c.alone-m.ensures (without_is _ _ (omega arith))
