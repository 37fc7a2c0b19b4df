-- `float64::root::parted` meets its contract. Assumes nothing.
use Rattle.std.proofs.Common.{arith}
use Rattle.float64.proofs.Fields.{units_low, widened_high}
use Rattle.float64.proofs.root.parted.Goals as goal

pub returns-then-field-eq0 : goal.returns-then-field-eq0
returns-then-field-eq0 c = rw (units_low c.args.b c.if-field-eq0.true) c.widened.ensures

pub returns : goal.returns
returns c = (widened_high c.args.b (omega arith) c.if-field-eq0.false).same
