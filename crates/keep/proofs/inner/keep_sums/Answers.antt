-- `keep_sums` meets its contract: cleared sums take all rows, then the square is mirrored.
use mathlib.Core.Path.{◌∙◌}
use lib.ListN.{get_or-replicate}
use Rattle.steps.specs.Space.{with_part}
use Rattle.keep.proofs.Taking.{kept_none, kept_end}
use Rattle.keep.proofs.inner.keep_sums.Goals as goal

pub keep_rows-requires : goal.keep_rows-requires
keep_rows-requires c =
    let zeros = c.fill.ensures in
    (c.requires.0, kept_none _ _ _ _ (zeros.len ∙ c.requires.1) (λ k h. rw (zeros.after (λ y e. e), c.requires.1, get_or-replicate)))

pub returns : goal.returns
unfolding with_part
returns c = kept_end _ _ _ _ c.keep_rows.new.sums c.mirror.new.out c.keep_rows.ensures c.mirror.ensures
