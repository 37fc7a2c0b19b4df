-- `term_at` walks the terms and counts those that are in. The loop's invariant: `seen` is the count of the terms below j, and has not passed
-- the place that is looked for. The measure is what is left of the 64 terms. Assumes nothing.
-- the term that is met when the place is reached
use mathlib.Core.Path.{◌≡◌}
use Prim.Native.Nat.{◌-◌, ◌≤◌}
use Rattle.support.specs.Word.{has, count}
use Rattle.support.proofs.Support.term_at.Given as goal

abbrev pub invariant-loop-j : goal.invariant-loop-j
invariant-loop-j l = (l.j ≤ 64) × (l.seen ≡ count (has l.self.0) l.j) × (l.seen ≤ l.c.0)
