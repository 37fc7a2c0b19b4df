-- Reading back an answer, as `causes_read_back` (proofs/ReadBack) says it of each cause that was written. Assumes nothing.
use Rattle.std.specs.Prelude.{◌≡◌, List, ℕ, ◌+◌}
use Rattle.hexdigits.specs.Hex.{number_at, float}
use Rattle.why.specs.Codes.{cause_code, cause_refit, cause_value}
use Rattle.why.specs.declared.Cause.{Cause}

-- what the digits of an answer from a on say of a cause
pub record Says (text : List ℕ) (a : ℕ) (c : Cause) : Type 0 where
  pub code : number_at text a 2 ≡ cause_code c
  pub refit : number_at text (a + 2) 4 ≡ cause_refit c
  pub value : float text (a + 6) ≡ cause_value c
