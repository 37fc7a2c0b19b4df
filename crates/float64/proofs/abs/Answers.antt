-- `float64::abs` meets its contract. Assumes nothing.
use Rattle.std.proofs.Common.{T, sym, ◌∙◌, subst}
use lib.Ieee.{binary64, fits}
use Rattle.float64.proofs.Tests.{told_nan, told_number}
use Rattle.float64.proofs.Magnitude.{abs_nan, back_abs, pattern_abs}
use Rattle.float64.proofs.abs.Goals.{Start}
use Rattle.float64.proofs.abs.Goals as goal

in-binary64 : (c : Start) → T (fits binary64 c.args.x)
in-binary64 c = subst T (sym c.well_formed.0.1) tt

pub returns-then-is_nan : goal.returns-then-is_nan
returns-then-is_nan c = abs_nan _ (told_nan _ (sym c.is_nan.ensures.value ∙ c.if-is_nan.true))

pub float_from_bits-result : goal.float_from_bits-result
float_from_bits-result c = pattern_abs _ (in-binary64 (goal.at.float_from_bits-result c).Start) (told_number _ (sym c.is_nan.ensures.value ∙ c.if-is_nan.false))

pub returns : goal.returns
returns c = back_abs _ (in-binary64 (goal.at.returns c).Start) (told_number _ (sym c.is_nan.ensures.value ∙ c.if-is_nan.false))
