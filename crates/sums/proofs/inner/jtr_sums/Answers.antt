-- `jtr_sums` meets its contract: the sums of the columns and the target, from a cleared output.
use mathlib.Core.Path.{◌∙◌}
use native.Mathlib.Nat.{zero-add}
use native.Mathlib.Omega.{arith}
use lib.ListN.{get_or-replicate}
use Rattle.sums.specs.PageLaws.{holds_all, products_none, products_more, products_end}
use Rattle.sums.proofs.inner.jtr_sums.Goals as goal

pub take_targets-requires : goal.take_targets-requires
take_targets-requires c = (omega (arith, c.requires.0.cells), omega (arith, c.requires.1), omega (arith, c.fill.ensures.len, c.requires.2))

pub returns : goal.returns
returns c =
    let taken = c.take_targets in
    let a = c.args in
    let n = a.n_cols in
    let zeros = c.fill.ensures in
    let none = products_none _ _ n c.fill.new.self (λ q b. rw (zeros.after (λ y e. e), c.requires.2, get_or-replicate)) in
    let all = products_more _ n 0 a.n_rows _ a.target.now _ _ (holds_all a.theta.now n a.n_rows) none taken.ensures in
    products_end n _ _ (taken.auto.sums ∙ zeros.len ∙ c.requires.2) (rw zero-add at all)
