-- `float64::greater` meets its contract. Assumes nothing.
use Rattle.std.proofs.Common.{true, false, sym, ◌∙◌}
use Rattle.float64.proofs.Tests.{told_nan, told_number, greater_nan, greater_is}
use Rattle.float64.proofs.greater.Goals as goal

pub returns-then-is_nan : goal.returns-then-is_nan
returns-then-is_nan c = greater_nan c.args.a c.args.b (told_nan c.args.a (sym c.is_nan.ensures.value ∙ c.if-is_nan.true))

pub returns-then-a-b : goal.returns-then-a-b
returns-then-a-b c =
    greater_is c.args.a c.args.b true (told_number c.args.a (sym c.is_nan.ensures.value ∙ c.if-is_nan.false)) c.if-a-b.true

pub returns-else-a-b : goal.returns-else-a-b
returns-else-a-b c =
    greater_is c.args.a c.args.b false (told_number c.args.a (sym c.is_nan.ensures.value ∙ c.if-is_nan.false)) c.if-a-b.false
