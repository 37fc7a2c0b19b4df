-- The terms passed, from the last down, have their values, those before are as they were.
use mathlib.Core.Bool.{cond}
use Rattle.steps.specs.Num.{+zero, at}
use Rattle.support.specs.Word.{has, place}
use Rattle.coeffs.proofs.Spread.{Spread}
use Rattle.coeffs.proofs.inner.scatter.Given as goal

abbrev pub invariant-loop-j : goal.invariant-loop-j
invariant-loop-j l = Spread l.j (λ k. cond (has l.support.0 k) (at l.initial.coeffs (place l.support.0 k)) +zero) l.initial.coeffs l.coeffs
