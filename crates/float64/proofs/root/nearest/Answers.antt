-- `float64::root::nearest` meets its contract: only the last way out can say yes, and there every test held. Assumes nothing.
use Rattle.std.proofs.Common.{◌+◌, ◌-◌, ◌*◌, ◌/◌, ◌%◌, ◌^◌, arith, leb-true}
use Rattle.float64.proofs.Tested.{Small, small, tested}
use Rattle.float64.proofs.root.nearest.Goals.{Start}
use Rattle.float64.proofs.root.nearest.Goals as goal

few : (c : Start) → Small (c.args.m / 2 ^ 27) (c.args.m % 2 ^ 27)
few c = small c.args.m c.requires.high

pub returns : goal.returns
returns c = λ r.
    let m = c.args.m in
    let a = m / 2 ^ 27 in
    let b = m % 2 ^ 27 in
    let t = (c.args.s + (2 ^ 64 - a * a * 4)) % 2 ^ 64 in
    let v = (t * 2 ^ 24 + 2 ^ 26 + (2 ^ 64 - a * b)) % 2 ^ 64 in
    let products = few (goal.at.returns c).Start in
    tested c.args.s m a b t v (omega arith) (omega arith) (omega (arith, products, c.if-t-ge68719476736.false)) (omega (arith, products, c.if-v-ge34359738368.false)) c.if-low-e.false (leb-true _ _ r)
