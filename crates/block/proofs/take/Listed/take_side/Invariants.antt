-- The loop's invariant: the places passed have the target products of their terms.
use Rattle.std.proofs.Common.{◌≡◌}
use Rattle.steps.specs.Table.{filled}
use Rattle.block.specs.Listed.{listed_product}
use Rattle.block.proofs.take.Listed.take_side.Given as goal

abbrev pub invariant-loop-p : goal.invariant-loop-p
invariant-loop-p l = l.b ≡ filled (listed_product l.self.cols l.self.terms.now l.self.kept.now) l.p l.initial.b
