-- `alone` gives the word of one term: a shifted one below 64, and 0 from there on. Assumes nothing.
use mathlib.Core.Path.{sym, ◌∙◌}
use Rattle.support.specs.SupportLaws.{alone_is, alone_beyond}
use Rattle.support.proofs.Masks.{shl_is}
use Rattle.support.proofs.alone.Goals as goal

pub returns-then-t-ge64 : goal.returns-then-t-ge64
returns-then-t-ge64 c = sym (alone_beyond _ c.if-t-ge64.true)

pub returns : goal.returns
returns c = shl_is _ c.if-t-ge64.false ∙ sym (alone_is _ c.if-t-ge64.false)
