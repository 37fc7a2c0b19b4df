-- Each public call's contract leaves one answer: two results that meet it are equal. (A NaN is one value here; its bits are not.) That the rule of the root
-- does so by itself is `root_unique` in proofs/Rule.antt.
use Rattle.std.specs.Prelude.{◌≡◌, Float}
use Rattle.std.proofs.Common.{sym, ◌∙◌}
use Rattle.float64.specs.Root.{abs_of, greater_of}
use Rattle.float64.specs.Rule.{SqrtCall}

pub sqrt_unique : (x r s : Float) → SqrtCall x r → SqrtCall x s → r ≡ s
sqrt_unique x r s p q = p.value ∙ sym q.value

pub abs_unique : (x r s : Float) → r ≡ abs_of x → s ≡ abs_of x → r ≡ s
abs_unique x r s p q = p ∙ sym q

pub greater_unique : (a b r s : Float) → r ≡ greater_of a b → s ≡ greater_of a b → r ≡ s
greater_unique a b r s p q = p ∙ sym q
