-- The word has the terms passed whose coefficients are kept.
use mathlib.Core.Path.{◌≡◌}
use Rattle.steps.specs.Num.{at}
use Rattle.support.specs.Word.{word}
use Rattle.rule.specs.Fits.{keeps}
use Rattle.coeffs.proofs.inner.support_of.Given as goal

abbrev pub invariant-loop-j : goal.invariant-loop-j
invariant-loop-j l = l.s.0 ≡ word (λ k. keeps l.setup k (at l.coeffs k)) l.j
