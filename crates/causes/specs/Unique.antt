-- The contract of `respond_why` determines the answer's length and every byte. Assumes nothing.
use Rattle.std.specs.Prelude.{◌≡◌, List, ℕ, ◌≤◌, length}
use Rattle.exchange.specs.Exchange.{Exchanged}
use Rattle.exchange.specs.Laws.{exchanged_unique, exchanged_fits}
use Rattle.causes.specs.Exchange.{causes_of}

pub respond_why_unique : (input was out out' : List ℕ) (r r' : ℕ) → Exchanged causes_of input was out r → Exchanged causes_of input was out' r' → (r ≡ r') × (out ≡ out')
respond_why_unique = exchanged_unique causes_of

-- the answer has room where it was written
pub respond_why_fits : (input was out : List ℕ) (r : ℕ) → Exchanged causes_of input was out r → r ≤ length out
respond_why_fits = exchanged_fits causes_of
