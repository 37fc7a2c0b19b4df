-- The loop's invariant: the places passed have their pair sums.
use Rattle.std.proofs.Common.{◌+◌, ◌*◌, length}
use Rattle.steps.specs.Wrote.{Wrote}
use Rattle.block.specs.Listed.{listed_pair}
use Rattle.block.proofs.take.Listed.take_row.Given as goal

abbrev pub invariant-loop-q : goal.invariant-loop-q
invariant-loop-q l = Wrote (λ q. l.p.0 * length l.self.terms.now + q) 0 l.q (listed_pair l.self.cols l.self.terms.now l.self.kept.now l.p.0) l.initial.block l.block
