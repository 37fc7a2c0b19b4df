-- How a fit ends: with zeros, or with settled coefficients. The laws are those of proofs/Endings. Assumes nothing.
use Rattle.std.specs.Prelude.{◌≡◌, Float}
use mathlib.Core.List.{List, []}
use Prim.Native.Nat.{ℕ}
use Rattle.refusal.specs.Answers.{solved}
use Rattle.rule.specs.declared.Stop.{Stop}
use Rattle.rule.specs.declared.Stop.TheVariants.{NoData, FirstRefused, Empty, RefitRefused, Settled, OutOfRounds}
use Rattle.rule.specs.Rule.{Problem, latest, support, scatter}

-- the stops that leave only zeros: no data, a refused solve, an empty support
abbrev pub Zeroed : Stop → Type 0
Zeroed NoData = Unit {0}
Zeroed (FirstRefused t) = Unit {0}
Zeroed Empty = Unit {0}
Zeroed (RefitRefused t) = Unit {0}
Zeroed Settled = ⊥
Zeroed OutOfRounds = ⊥

module _ (P : Problem) where
  -- the coefficients are the values that the solve over w gave, each at its term
  pub record Refitted (cs : List Float) (w : ℕ) : Type 0 where
    pub values : List Float
    pub answer : P.solve w ≡ solved values
    pub placed : cs ≡ scatter P.cols w values

  -- they settled: a look finds just the terms of the last refit
  pub record Closed (cs : List Float) (ws : List ℕ) : Type 0 where
    pub refitted : Refitted cs (latest ws)
    pub same : support P cs ≡ latest ws
