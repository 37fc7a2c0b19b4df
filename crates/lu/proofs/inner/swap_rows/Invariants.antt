-- `swap_rows` meets its contract. The loop's invariant: the columns passed have changed places.
use Rattle.std.proofs.Common.{◌≡◌, ◌+◌, ◌*◌}
use Rattle.steps.specs.Loops.{loop}
use Rattle.steps.specs.Space.{swapped}
use Rattle.lu.proofs.inner.swap_rows.Given as goal

abbrev pub invariant-loop-j : goal.invariant-loop-j
invariant-loop-j l = l.a ≡ loop 0 l.j (λ c xs. swapped (l.k * l.n + c) (l.r * l.n + c) xs) l.initial.a
