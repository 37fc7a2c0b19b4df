-- `float64::root::widened` meets its contract: the number is moved up by what its first digit lacks to the 53rd. Assumes nothing.
use Rattle.std.proofs.Common.{◌≡◌, ◌-◌, ◌*◌, ◌%◌, ◌^◌, ap, ◌∙◌, arith}
use Rattle.float64.proofs.Turns.{shifted, first_below}
use Rattle.float64.proofs.root.widened.Goals as goal

pub overflow_sub-result : goal.overflow_sub-result
overflow_sub-result c = omega (arith, first_below _ _ c.ilog2-exp.ensures.power_le c.ilog2-exp.ensures.next_power_gt c.requires.few)

pub invariant_of-result : goal.invariant_of-result
invariant_of-result c =
    let e = c.ilog2-exp in
    let first = first_below _ _ e.ensures.power_le e.ensures.next_power_gt c.requires.few in
    let m = shifted _ _ e.ensures.power_le e.ensures.next_power_gt first in
    record { low = omega (arith, m.low_53, m.high_53); high = omega (arith, m.high_53); most = omega (arith, first) }

pub returns : goal.returns
returns c =
    let e = c.ilog2-exp in
    let m = shifted _ _ e.ensures.power_le e.ensures.next_power_gt (first_below _ _ e.ensures.power_le e.ensures.next_power_gt c.requires.few) in
    let whole : c.args.sig * 2 ^ (52 - e.result) % 2 ^ 64 ≡ c.args.sig * 2 ^ (52 - e.result) = omega (arith, m.high_53) in
    rw c.from.ensures (ap (λ x. x * 2 ^ e.result) whole ∙ m.same)
