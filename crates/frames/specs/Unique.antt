-- The contract of `respond` determines the answer's length and every byte. Assumes nothing.
use Rattle.std.specs.Prelude.{◌≡◌, List, ℕ, ◌≤◌, length}
use Rattle.exchange.specs.Laws.{exchanged_unique, exchanged_fits}
use Rattle.frames.specs.Exchange.{answer_of, Exchange}

pub respond_unique : (input was out out' : List ℕ) (r r' : ℕ) → Exchange input was out r → Exchange input was out' r' → (r ≡ r') × (out ≡ out')
respond_unique = exchanged_unique answer_of

-- the answer has room where it was written
pub respond_fits : (input was out : List ℕ) (r : ℕ) → Exchange input was out r → r ≤ length out
respond_fits = exchanged_fits answer_of
