-- `pad` meets its contract: zeros, then the target over the first of them.
use Rattle.augment.proofs.Augment.{padded_is}
use Rattle.augment.proofs.inner.pad.Goals as goal

pub returns : goal.returns
returns c =
    let args = c.args in
    padded_is args.n_active args.target.now c.copy.new.to args.b.now c.clear.new.s c.requires.2 c.copy.ensures c.clear.ensures
