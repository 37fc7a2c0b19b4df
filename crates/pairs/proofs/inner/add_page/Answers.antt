-- `add_page` meets its contract: the edge, then what is left four by four.
use mathlib.Core.Path.{refl}
use native.Mathlib.Omega.{arith}
use Rattle.pairs.proofs.Changes.{below}
use Rattle.pairs.proofs.inner.add_page.Goals as goal

pub returns : goal.returns
returns c =
    below _ _ _ _ _ _ _ _ _ _ _ (omega arith) (omega arith) refl c.edge.ensures c.bands.ensures
