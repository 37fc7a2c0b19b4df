-- The terms passed have gone through the last pass, the others are as they were.
use mathlib.Core.Bool.{cond}
use Rattle.steps.specs.Num.{+zero, at}
use Rattle.steps.specs.Wrote.{Wrote}
use Rattle.rule.specs.Fits.{clears}
use Rattle.coeffs.proofs.inner.prune.Given as goal

abbrev pub invariant-loop-c : goal.invariant-loop-c
invariant-loop-c l = Wrote (λ k. k) 0 l.c-index (λ k. cond (clears l.setup k (at l.initial.coeffs k)) +zero (at l.initial.coeffs k)) l.initial.coeffs l.coeffs
