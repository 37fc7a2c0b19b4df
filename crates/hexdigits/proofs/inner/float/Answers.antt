-- `float` tests for a NaN's pattern, from which no number can be made. Assumes nothing.
use Rattle.std.proofs.Common.{sym, ap, ◌∙◌, lit<}
use Rattle.std.specs.Float.{binary64}
use Rattle.std.specs.Float.Ieee.{of_bits}
use Rattle.hexdigits.proofs.Floats.{pattern_nan, pattern_fine}
use Rattle.hexdigits.proofs.inner.float.Goals as goal

pub returns-then-bits-gt9218868437227405312 : goal.returns-then-bits-gt9218868437227405312
returns-then-bits-gt9218868437227405312 c =
    pattern_nan _ (lit< tt) ∙ sym (pattern_nan _ c.if-bits-gt9218868437227405312.true) ∙ ap (of_bits binary64) c.number_at-bits.ensures

pub float_from_bits-result : goal.float_from_bits-result
float_from_bits-result c = pattern_fine _ c.if-bits-gt9218868437227405312.false
