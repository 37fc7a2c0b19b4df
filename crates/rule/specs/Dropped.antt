-- The look that drops a term, by the rule. Assumes nothing.
use Rattle.std.specs.Prelude.{cond, ℕ, zero, suc, length, Float, Option, Some, None}
use Rattle.steps.specs.Num.{at}
use Rattle.support.specs.Word.{has}
use Rattle.rule.specs.Rule.{Problem, State, going, done, support, rounds}
use Rattle.rule.specs.declared.Look.{Look}

-- before the refit of this number, at this coefficient
abbrev pub before : ℕ → Float → Look
before r c = record { refit = r; value = c }

-- a look that does not find the term j drops it, before the refit that would be next, at the coefficient that it sees; a fit that is done looks no more
unfoldable pub drops : Problem → ℕ → State → Option Look
drops P j (going cs past) = cond (has (support P cs) j) None (Some (before (suc (length past)) (at cs j)))
drops P j (done t cs past) = None

-- of two looks the first that drops it
unfoldable pub or_else : Option Look → Option Look → Option Look
or_else None later = later
or_else (Some d) later = Some d

-- the first look of r rounds that drops it. The last look is of no round, and drops nothing
unfoldable pub dropped : Problem → ℕ → ℕ → Option Look
dropped P j zero = None
dropped P j (suc r) = or_else (dropped P j r) (drops P j (rounds P r))
