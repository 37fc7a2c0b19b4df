-- What a fit of accepted sizes promises. Assumes nothing.
use Rattle.std.specs.Prelude.{◌≡◌, List, ℕ, Float, Option}
use Rattle.steps.specs.Num.{at}
use Rattle.rule.specs.Rule.{Problem, Fit, rounds, coeffs_of}
use Rattle.rule.specs.Dropped.{dropped}
use Rattle.rule.specs.declared.Stop.{Stop}
use Rattle.rule.specs.declared.Look.{Look}

-- how a fit ends: its stop, its refits and its coefficients
pub record Ends (f : Fit) (t : Stop) (r : ℕ) (cs : List Float) : Type 0 where
  pub stop : t ≡ f.stop
  pub refits : r ≡ f.refits
  pub coeffs : cs ≡ f.coeffs

-- what a fit within a limit of rounds saw of the term j: the look that dropped it, and its last coefficient before the last pass
pub record Saw (P : Problem) (limit j : ℕ) (drop : Option Look) (last : Float) : Type 0 where
  pub drops : drop ≡ dropped P j limit
  pub value : last ≡ at (coeffs_of (rounds P limit)) j
