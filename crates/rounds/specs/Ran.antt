-- What the rounds of a fit promise, in the words of the rule. Assumes nothing.
use Rattle.std.specs.Prelude.{◌≡◌, List, ℕ, length, Float, Option}
use Rattle.rule.specs.Rule.{Problem, rounds, fit, reported, coeffs_of}
use Rattle.rule.specs.Dropped.{dropped}
use Rattle.rule.specs.declared.Stop.{Stop}
use Rattle.rule.specs.declared.Look.{Look}

-- a fit of at most limit rounds came to this stop, this many refits and these coefficients, all but the last pass, and a look dropped the term j there
pub record CameTo (P : Problem) (limit j : ℕ) (stop : Stop) (refits : ℕ) (drop : Option Look) (cs : List Float) : Type 0 where
  pub refitted : List ℕ
  pub ends : fit P limit ≡ reported P stop cs refitted
  pub counts : refits ≡ length refitted
  pub leaves : cs ≡ coeffs_of (rounds P limit)
  pub drops : drop ≡ dropped P j limit
