-- `contains` looks at the term's bit; a word of 64 bits has no term from 64 on. Assumes nothing.
use mathlib.Core.Path.{sym}
use native.Mathlib.Omega.{arith}
use borrow.Author.Rules.{rules}
use Rattle.support.specs.Word.{has}
use Rattle.support.specs.WordLaws.{has_beyond}
use Rattle.support.proofs.Support.contains.Goals as goal

pub returns-then-t-ge64 : goal.returns-then-t-ge64
returns-then-t-ge64 c = sym (has_beyond _ 64 _ (omega arith) c.if-t-ge64.true)

pub returns : goal.returns
unfolding has
returns c = search rules
