-- `solve_columns` meets its contract: from the kept sums, which stay, or from the rows.
use mathlib.Core.Path.{sym, ◌∙◌}
use Rattle.refit.proofs.Methods.{FromSums, from_sums}
use Rattle.refit.proofs.Large.{block_fits}
use Rattle.refit.proofs.Kept.{kept_is, kept_on}
use Rattle.refit.proofs.inner.solve_columns.Goals.{In-Sums}
use Rattle.refit.proofs.inner.solve_columns.Goals as goal

-- from the sums, with a damping
from : (c : In-Sums) → FromSums c.args.given.task.solver c.args.given.task.setup.lambda c.in-Sums.damping
from c = from_sums _ _ _ (sym c.method_of.ensures ∙ c.in-Sums.is)

pub solve_normal-requires : goal.solve_normal-requires
solve_normal-requires c =
    let s = c.requires.0 in
    (c.args.given.sized.limited.few_cols, s.within, s.count, block_fits s c.requires.1 (from (goal.at.solve_normal-requires c).In-Sums))

pub returns-in-Sums : goal.returns-in-Sums
returns-in-Sums c =
    let a = c.args in
    let made = c.solve_normal.ensures in (
      made.0 ∙ kept_is a.given (from (goal.at.returns-in-Sums c).In-Sums) a.ws.now a.support.0 c.requires.2 c.requires.0.within,
      kept_on a.given a.ws.now _ made.1 c.requires.2,
    )
