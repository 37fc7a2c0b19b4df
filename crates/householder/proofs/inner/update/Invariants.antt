-- `update` meets its contract. The loop's invariant: of whatever matrix z the leading row's step was taken, the rows above i have had theirs.
use Rattle.std.specs.Prelude.{◌≡◌, List, ◌+◌, ◌*◌, length, Float}
use Rattle.steps.specs.Num.{at, cell}
use Rattle.steps.specs.Rows.{Rows}
use Rattle.householder.proofs.Rows.{New}
use Rattle.householder.proofs.inner.update.Given as goal

abbrev pub invariant-loop-i : goal.invariant-loop-i
invariant-loop-i l =
    (z : List Float) → length z ≡ l.m * l.n → Rows l.m l.n (New l.j l.x (at l.t) (cell l.n z)) z (l.j + 1) l.initial.a → Rows l.m l.n (New l.j l.x (at l.t) (cell l.n z)) z l.i l.a
