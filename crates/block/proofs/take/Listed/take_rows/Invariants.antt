-- The loop's invariant: the rows passed are taken.
use Rattle.std.proofs.Common.{length}
use Rattle.steps.specs.Rows.{Rows}
use Rattle.block.specs.Listed.{listed_pair}
use Rattle.block.proofs.take.Listed.take_rows.Given as goal

abbrev pub invariant-loop-p : goal.invariant-loop-p
invariant-loop-p l = let k = length l.self.terms.now in Rows k k (listed_pair l.self.cols l.self.terms.now l.self.kept.now) l.initial.block l.p l.block
