-- The rows passed have the root on their diagonal.
use Rattle.augment.specs.Ridged.{Ridged}
use Rattle.augment.proofs.inner.add_ridge.Given as goal

abbrev pub invariant-loop-c : goal.invariant-loop-c
invariant-loop-c l = Ridged l.n_rows l.n_active l.root l.c l.initial.s l.s
