-- `place` counts the ones below the term's bit: all of them from 64 on. Assumes nothing.
use mathlib.Core.Path.{sym, ◌∙◌}
use native.Mathlib.Omega.{arith}
use Rattle.support.specs.CountLaws.{place_beyond}
use Rattle.support.proofs.Masks.{shl_pos, place_mask}
use Rattle.support.proofs.Support.place.Goals as goal

pub returns-then-t-ge64 : goal.returns-then-t-ge64
returns-then-t-ge64 c = c.count.ensures ∙ sym (place_beyond _ 64 _ (omega arith) c.if-t-ge64.true)

pub overflow_sub-below : goal.overflow_sub-below
overflow_sub-below c = shl_pos _ c.if-t-ge64.false

pub returns : goal.returns
returns c = place_mask _ _ c.if-t-ge64.false
