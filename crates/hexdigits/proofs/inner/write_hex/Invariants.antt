-- `write_hex` writes from the last digit to the first. The loop's invariant: the digits from i on stand where they belong, and `rest` has those that are left. Assumes nothing.
use Rattle.hexdigits.proofs.Writing.{Writing}
use Rattle.hexdigits.proofs.inner.write_hex.Given as goal

abbrev pub invariant-loop-i : goal.invariant-loop-i
invariant-loop-i l = Writing l.w l.n l.at l.initial.out l.i l.rest l.out
