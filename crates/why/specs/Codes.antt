-- The causes by their codes and values, and an answer by its number. Assumes nothing.
use Rattle.std.specs.Prelude.{ℕ, Float, Result}
use Rattle.steps.specs.Num.{+zero}
use Rattle.refusal.specs.Answers.{answer_number}
use Rattle.why.specs.declared.Cause.{Cause}
use Rattle.why.specs.declared.Cause.TheVariants.{NoData, FirstRefused, Kept, Dropped, Cleared, Zeroed, LeftNan}
use Rattle.refusal.specs.declared.Refusal.{Refusal}

-- a two-digit cause in the order of document 02, 00 to 06
abbrev pub cause_code : Cause → ℕ
cause_code NoData = 0
cause_code FirstRefused = 1
cause_code Kept = 2
cause_code (Dropped r c) = 3
cause_code (Cleared r) = 4
cause_code (Zeroed c) = 5
cause_code LeftNan = 6

-- the refit number, zero where the cause has none
abbrev pub cause_refit : Cause → ℕ
cause_refit NoData = 0
cause_refit FirstRefused = 0
cause_refit Kept = 0
cause_refit (Dropped r c) = r
cause_refit (Cleared r) = r
cause_refit (Zeroed c) = 0
cause_refit LeftNan = 0

-- the coefficient, zero where the cause has none
abbrev pub cause_value : Cause → Float
cause_value NoData = +zero
cause_value FirstRefused = +zero
cause_value Kept = +zero
cause_value (Dropped r c) = c
cause_value (Cleared r) = +zero
cause_value (Zeroed c) = c
cause_value LeftNan = +zero

-- an answer by number: 0 for a cause, else the refusal's
abbrev pub caused_number : Result Cause Refusal → ℕ
caused_number r = answer_number r
