-- `float64::root::guess` meets its contract. Assumes nothing.
use Rattle.std.proofs.Common.{◌-◌, ◌/◌, arith}
use Rattle.float64.proofs.Tests.{below_inf}
use Rattle.float64.proofs.root.guess.Goals as goal

pub float_from_bits-f : goal.float_from_bits-f
float_from_bits-f c = below_inf c.args.b (omega arith)

pub float_from_bits-p0 : goal.float_from_bits-p0
float_from_bits-p0 c = below_inf (0x5fd6_ed1b_0000_0000 - c.args.b / 2) (omega arith)
