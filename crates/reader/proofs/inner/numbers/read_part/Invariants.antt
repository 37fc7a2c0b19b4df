-- `read_part` reads a frame after another. The loop's invariant: the first i numbers are the first i of the part.
use Rattle.std.proofs.Common.{◌≡◌, ◌+◌, ◌/◌, ◌%◌}
use Rattle.steps.specs.Table.{filled}
use Rattle.reader.specs.Numbers.{frame_number}
use Rattle.reader.proofs.inner.numbers.read_part.Given as goal

abbrev pub invariant-loop-i : goal.invariant-loop-i
invariant-loop-i l =
    l.out ≡ filled (λ i. frame_number l.s l.all.width (l.first + i / l.each) (l.place + i % l.each)) l.i l.initial.out
