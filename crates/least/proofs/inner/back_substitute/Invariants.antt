-- `back_substitute` meets its contract. The loop's invariant: what is left to do from here gives the whole answer.
use Rattle.std.proofs.Common.{◌≡◌}
use Rattle.steps.specs.Loops.{way_down}
use Rattle.least.specs.Least.{back_column, back}
use Rattle.least.proofs.inner.back_substitute.Given as goal

abbrev pub invariant-loop-j : goal.invariant-loop-j
invariant-loop-j l = way_down (back_column l.f.cols l.f.numbers.now) l.j l.x ≡ back l.f.cols l.f.numbers.now l.initial.x
