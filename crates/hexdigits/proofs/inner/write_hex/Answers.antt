-- `write_hex` writes a digit a turn. Assumes nothing.
use Rattle.hexdigits.proofs.Writing.{writing_none, writing_more, writing_end}
use Rattle.hexdigits.proofs.inner.write_hex.Goals as goal

pub loop-i-init : goal.loop-i-init
loop-i-init c = writing_none _ _ _ _

pub loop-i-preserved : goal.loop-i-preserved
loop-i-preserved c = writing_more _ _ _ _ c.loop-i-test.true c.requires c.glyph.ensures c.loop-i.invariant

pub returns-clause-written : goal.returns-clause-written
returns-clause-written c = writing_end _ _ _ _ c.loop-i-test.false c.loop-i.invariant
