-- `lu_factor` meets its contract. The loop's invariant: the columns before k went as the rule says, and left the matrix and b as they are.
use Rattle.std.proofs.Common.{◌≡◌}
use Rattle.steps.specs.Loops.{going, way}
use Rattle.lu.specs.Lu.{lu_column}
use Rattle.lu.proofs.inner.lu_factor.Given as goal

abbrev pub invariant-loop-k : goal.invariant-loop-k
invariant-loop-k l = way (lu_column l.n) 0 l.k (l.initial.a, l.initial.b) ≡ going (l.a, l.b)
