-- `jtj_sums` meets its contract: from a cleared output the upper half takes all rows, then it is mirrored.
use mathlib.Core.Path.{◌∙◌}
use lib.ListN.{get_or-replicate}
use Rattle.sums.specs.PageLaws.{sums_none, mirror_end}
use Rattle.sums.proofs.inner.jtj_sums.Goals as goal

pub add_rows-requires : goal.add_rows-requires
add_rows-requires c =
    let zeros = c.fill.ensures in
    sums_none _ _ _ (zeros.len ∙ c.requires) (λ k h. rw (zeros.after (λ y e. e), c.requires, get_or-replicate))

pub returns : goal.returns
returns c = mirror_end _ _ _ _ _ c.add_rows.ensures c.mirror.ensures
