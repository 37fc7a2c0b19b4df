-- Kept sums at the terms that a table lists. Assumes nothing.
use Rattle.std.specs.Prelude.{List, ℕ, get_or, Float}
use Rattle.steps.specs.Num.{Entry}
use Rattle.sums.specs.Kept.{pair, product}

-- the pair sum of the terms at two places
unfoldable pub listed_pair : ℕ → List ℕ → List Float → Entry
listed_pair n table s p q = pair n s (get_or table p 0) (get_or table q 0)

-- the target product of the term at a place
unfoldable pub listed_product : ℕ → List ℕ → List Float → ℕ → Float
listed_product n table s p = product n s (get_or table p 0)
