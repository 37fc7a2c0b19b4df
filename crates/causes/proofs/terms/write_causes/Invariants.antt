-- `write_causes` writes a line a turn. The loop's invariant: the lines of the first j terms are written, and what the fits lend keeps its length. Assumes nothing.
use Rattle.std.proofs.Common.{◌≡◌, length}
use Rattle.causes.specs.Exchange.{cause_given}
use Rattle.causes.proofs.Telling.{Told}
use Rattle.causes.proofs.terms.write_causes.Given as goal

abbrev pub invariant-loop-j : goal.invariant-loop-j
invariant-loop-j l =
    (length l.coeffs ≡ length l.initial.coeffs) × (length l.workspace ≡ length l.initial.workspace) × Told (cause_given l.given) l.initial.out l.j l.out l.next
