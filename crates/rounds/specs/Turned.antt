-- What a round of a fit promises, in the words of the rule. Assumes nothing.
use Rattle.std.specs.Prelude.{◌≡◌, List, ◌∷◌, ℕ, Float}
use Rattle.rule.specs.Rule.{Problem, State, going, done, latest, support, round}
use Rattle.rule.specs.declared.Stop.TheVariants as S
use Rattle.rounds.specs.declared.inner.Turn.{Turn}
use Rattle.rounds.specs.declared.inner.Turn.TheVariants.{Again, Empty, Settled, Refused}

-- the state that a round from cs came to with the coefficients x, after refits over past (the newest first); a refused refit counts
abbrev pub turned : Problem → List Float → List ℕ → Turn → List Float → State
turned P cs past (Again w) x = going x (w.0 ∷ past)
turned P cs past Empty x = done S.Empty x past
turned P cs past Settled x = done S.Settled x past
turned P cs past (Refused t) x = done (S.RefitRefused t) x (support P cs ∷ past)

-- a round from cs after a last refit over last (0: none), whatever was refitted before that
pub record Turned (P : Problem) (last : ℕ) (cs : List Float) (t : Turn) (x : List Float) : Type 0 where
  pub rule : (past : List ℕ) → last ≡ latest past → round P (going cs past) ≡ turned P cs past t x
