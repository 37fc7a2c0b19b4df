-- `groups`: the loop's invariant is that each exchange that was run takes some of the list, and that no more are alike than were run; what is left of the list is the measure. Assumes nothing.
use Rattle.std.proofs.Common.{◌-◌, length}
use Rattle.cases.specs.List.{Tallied}
use Rattle.cases.proofs.replay.groups.Given as goal

abbrev pub invariant-loop-end : goal.invariant-loop-end
invariant-loop-end g l = Tallied l.total 0 (length l.list)

abbrev pub decreases-loop-end : goal.decreases-loop-end
decreases-loop-end g l = length l.list - l.total.end
