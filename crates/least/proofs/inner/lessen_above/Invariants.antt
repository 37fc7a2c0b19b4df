-- `lessen_above` meets its contract. The loop's invariant: the entries passed have lost their part.
use Rattle.std.proofs.Common.{◌≡◌}
use Rattle.steps.specs.Loops.{loop}
use Rattle.least.specs.Least.{lessened}
use Rattle.least.proofs.inner.lessen_above.Given as goal

abbrev pub invariant-loop-i : goal.invariant-loop-i
invariant-loop-i l = l.x ≡ loop 0 l.i (lessened l.f.cols l.f.numbers.now l.j) l.initial.x
