-- `number_at` takes the digits from the first on. The loop's invariant: w is the number of the digits so far, and so below 16 to their number. Assumes nothing.
use Rattle.std.proofs.Common.{◌≡◌, ◌^◌, ◌<◌}
use Rattle.hexdigits.specs.Hex.{number_at}
use Rattle.hexdigits.proofs.inner.number_at.Given as goal

abbrev pub invariant-loop-b : goal.invariant-loop-b
invariant-loop-b l = (l.w ≡ number_at l.s l.at l.b-index) × (l.w < 16 ^ l.b-index)
