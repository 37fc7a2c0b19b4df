-- `qr_values` meets its contract: what is solved is the augmented matrix and the padded target.
use mathlib.Core.Path.{◌∙◌}
use Rattle.steps.specs.Space.{with_part}
use Rattle.refit.proofs.Joined.{least_is}
use Rattle.refit.proofs.inner.by_least.qr_values.Goals as goal

pub returns : goal.returns
unfolding with_part
returns c =
    let g = c.args.given in
    let made = rw (c.theta.ensures.matrix, c.theta.ensures.rows, c.theta.ensures.cols) at c.augment.ensures in
    c.least_packed.ensures
    ∙ least_is g.task g.theta.now g.target.now c.args.support.0 c.args.n_active g.sized.target_long c.requires.0.count c.args.ws.now c.requires.1 made c.pad.ensures c.requires.2
