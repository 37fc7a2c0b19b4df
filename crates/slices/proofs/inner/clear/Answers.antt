-- `clear` meets its contract: the head is filled with zeros.
use Rattle.steps.specs.Space.{cleared_filled}
use Rattle.slices.proofs.inner.clear.Goals as goal

pub returns : goal.returns
returns c = cleared_filled _ _ _ c.requires (c.fill.ensures.after (λ y e. e))
