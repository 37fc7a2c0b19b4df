-- `eliminate` meets its contract. The loop's invariant: the rows passed are eliminated, and the pivot is the one found first.
use Rattle.std.proofs.Common.{◌≡◌, ◌+◌}
use Rattle.steps.specs.Num.{cell}
use Rattle.steps.specs.Loops.{loop}
use Rattle.lu.specs.Lu.{lu_row}
use Rattle.lu.proofs.inner.eliminate.Given as goal

abbrev pub invariant-loop-i : goal.invariant-loop-i
invariant-loop-i l = l.a ≡ loop (l.k + 1) l.i (lu_row l.n l.k (cell l.n l.initial.a l.k l.k)) l.initial.a
