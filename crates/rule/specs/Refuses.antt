-- Where a fit is refused: at a term of theta, and after a refit at one of the support that was refitted. The laws are those of proofs/Refuses. Assumes nothing.
use Rattle.std.specs.Prelude.{List, [], ℕ, ◌<◌, T}
use Rattle.std.specs.Int.Count.{ones}
use Rattle.support.specs.Word.{has}
use Rattle.refusal.specs.Answers.{Within}
use Rattle.rule.specs.declared.Stop.{Stop}
use Rattle.rule.specs.declared.Stop.TheVariants.{NoData, FirstRefused, Empty, RefitRefused, Settled, OutOfRounds}
use Rattle.rule.specs.Rule.{Problem, latest}
use Rattle.rule.specs.Rule as R

-- a problem whose solves do so
pub record Columned (P : Problem) : Type 0 where
  pub first_solve : Within P.cols P.whole
  pub refits : (w : ℕ) → Within (ones w) (P.solve w)

-- a term of theta's n that is in the support w
pub record InSupport (w n t : ℕ) : Type 0 where
  pub in_it : T (has w t)
  pub below : t < n

-- a stop that names a term names one of theta's n, and after the refits ws (the newest first) one of the last
abbrev pub RefusedAt : ℕ → Stop → List ℕ → Type 0
RefusedAt n NoData ws = Unit {0}
RefusedAt n (FirstRefused t) ws = t.0 < n
RefusedAt n Empty ws = Unit {0}
RefusedAt n (RefitRefused t) ws = InSupport (latest ws) n t.0
RefusedAt n Settled ws = Unit {0}
RefusedAt n OutOfRounds ws = Unit {0}
