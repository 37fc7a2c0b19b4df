-- Why a term ended as it did, by the rule. Assumes nothing.
use Rattle.std.specs.Prelude.{ℕ, Bool, cond, List, Float, Option, Some, None}
use Rattle.std.specs.Float.Ieee.{is_nan}
use Rattle.steps.specs.Num.{at}
use Rattle.rule.specs.Rule.{Problem, rounds, coeffs_of, fit}
use Rattle.rule.specs.Dropped.{dropped}
use Rattle.rule.specs.Fits.{problem_of}
use Rattle.rule.specs.declared.Task.{Task}
use Rattle.rule.specs.declared.Stop.{Stop}
use Rattle.rule.specs.declared.Stop.TheVariants as S
use Rattle.rule.specs.declared.Look.{Look}
use Rattle.why.specs.declared.Cause.{Cause}
use Rattle.why.specs.declared.Cause.TheVariants.{NoData, FirstRefused, Kept, Dropped, Cleared, Zeroed, LeftNan}

-- by its last value, before the last pass: kept, left as NaN, or zeroed by the pass
unfoldable pub by_value : (Float → Bool) → Float → Cause
by_value keeps c = cond (keeps c) Kept (cond (is_nan c) LeftNan (Zeroed c))

-- a term that no look dropped, by the fit's stop, its refits and the term's last value
unfoldable pub undropped : (Float → Bool) → Stop → ℕ → Float → Cause
undropped keeps S.NoData refits c = NoData
undropped keeps (S.FirstRefused t) refits c = FirstRefused
undropped keeps S.Empty refits c = by_value keeps c
undropped keeps (S.RefitRefused t) refits c = Cleared refits
undropped keeps S.Settled refits c = by_value keeps c
undropped keeps S.OutOfRounds refits c = by_value keeps c

-- a term that a look dropped was dropped there, however the fit went on
unfoldable pub caused : (Float → Bool) → Option Look → Stop → ℕ → Float → Cause
caused keeps None stop refits c = undropped keeps stop refits c
caused keeps (Some d) stop refits c = Dropped d.refit d.value

-- why the term j ended as it did within a limit of rounds
unfoldable pub cause : Problem → ℕ → ℕ → Cause
cause P limit j = caused (P.keeps j) (dropped P j limit) (fit P limit).stop (fit P limit).refits (at (coeffs_of (rounds P limit)) j)

-- of theta and target as a call is lent them
abbrev pub cause_of : Task → List Float → List Float → ℕ → Cause
cause_of task theta target j = cause (problem_of task theta target) task.setup.max_iter j
