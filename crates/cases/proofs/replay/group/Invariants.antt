-- `group`: the loop's invariant is that each exchange that was run takes some of the list, and that no more are alike than were run; what is left of the list is the measure. Assumes nothing.
use Rattle.std.proofs.Common.{◌-◌, length}
use Rattle.cases.specs.List.{Tallied}
use Rattle.cases.proofs.replay.group.Given as goal

abbrev pub invariant-loop-mid : goal.invariant-loop-mid
invariant-loop-mid l = Tallied l.tally l.from (length l.list)

abbrev pub decreases-loop-mid : goal.decreases-loop-mid
decreases-loop-mid l = length l.list - l.tally.end
