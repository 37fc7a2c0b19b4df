-- The places passed have their numbers.
use mathlib.Core.Bool.{cond}
use Prim.Native.Nat.{◌+◌, ◌*◌}
use lib.Dec.{eqb}
use Rattle.steps.specs.Num.{+zero}
use Rattle.steps.specs.Wrote.{Wrote}
use Rattle.augment.proofs.inner.ridge_row.Given as goal

abbrev pub invariant-loop-c : goal.invariant-loop-c
invariant-loop-c l = Wrote (λ q. l.i * l.n_active + q) 0 l.c (λ q. cond (eqb l.own.0 q) l.root +zero) l.initial.s l.s
