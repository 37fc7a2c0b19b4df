-- `kept_columns` meets its contract: the head of the table has the terms, as many as there are.
use mathlib.Core.Path.{◌≡◌, sym, ◌∙◌}
use native.Mathlib.Omega.{arith}
use lib.Count.{ones}
use lib.ListN.{length, take}
use Rattle.places.specs.ColumnLaws.{length_head, names_head}
use Rattle.places.proofs.inner.kept_columns.Goals.{After-count}
use Rattle.places.proofs.inner.kept_columns.Goals as goal

long : (c : After-count) → length (take c.count.result c.list_terms.new.terms) ≡ ones c.args.support.0
long c = length_head c.args.theta.cols c.args.support.0 _ c.list_terms.ensures c.count.result c.requires.0 c.count.ensures (omega arith)

pub slice_bounds-result-end : goal.slice_bounds-result-end
slice_bounds-result-end c = c.count.ensures ∙ sym (long (goal.at.slice_bounds-result-end c).After-count)

pub invariant_of-result : goal.invariant_of-result
invariant_of-result c =
    let theta = c.args.theta in
    record { names = names_head theta.cols c.args.support.0 _ c.list_terms.ensures c.count.result theta.few_columns c.requires.0 c.count.ensures (omega arith) }

pub returns-clause-long : goal.returns-clause-long
returns-clause-long c = long (goal.at.returns-clause-long c).After-count
