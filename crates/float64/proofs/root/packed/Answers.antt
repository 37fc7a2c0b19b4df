-- `float64::root::packed` meets its contract. Assumes nothing.
use Rattle.std.proofs.Common.{◌≡◌, ℕ, ◌+◌, ◌*◌, ◌/◌, ◌%◌, ◌^◌, ◌≤◌, sym, ◌∙◌, subst, arith}
use Rattle.float64.specs.Parts.{Rooted}
use Rattle.float64.proofs.Fields.{halved, wide}
use Rattle.float64.proofs.Digits.{q_high}
use Rattle.float64.proofs.Pattern.{root_at, root_small}
use Rattle.float64.proofs.root.packed.Goals.{Start}
use Rattle.float64.proofs.root.packed.Goals as goal

digits : (c : Start) → (2 ^ 52 ≤ c.args.x.digits * (1 + c.args.x.exp % 2)) × (c.args.x.digits * (1 + c.args.x.exp % 2) + 2 ≤ 2 ^ 54)
digits c = wide c.args.x.digits (c.args.x.exp % 2) c.args.x.low c.args.x.high (omega arith)

pub overflow_mul-s : goal.overflow_mul-s
overflow_mul-s c = omega (arith, digits (goal.at.overflow_mul-s c).Start)

pub half_root-m-requires : goal.half_root-m-requires
half_root-m-requires c = record { few = omega (arith, digits (goal.at.half_root-m-requires c).Start); from_1 = omega arith; below_4 = omega arith }

pub overflow_add-result-2 : goal.overflow_add-result-2
overflow_add-result-2 c = omega (arith, q_high _ _ (digits (goal.at.overflow_add-result-2 c).Start).1 c.half_root-m.ensures.whole, c.half_root-m.ensures.half)

pub returns : goal.returns
returns c =
    let s = c.args.x.digits * (1 + c.args.x.exp % 2) in
    let h = c.args.x.exp / 2 in
    let r = c.half_root-m.ensures in
    let few : h ≤ 1048 = omega arith in
    λ n e.
    let k : n * 2 ^ 52 ≡ s * 2 ^ h * 2 ^ h = sym e ∙ sym (halved c.args.x.digits c.args.x.exp) in
    subst (λ (m : ℕ). Rooted n ((485 + h) * 2 ^ 52 + m)) r.half
    (record {
      reads = root_at n s h r.q k (digits (goal.at.returns c).Start).0 (digits (goal.at.returns c).Start).1 few r.whole;
      small = root_small n s h r.q k (digits (goal.at.returns c).Start).0 (digits (goal.at.returns c).Start).1 few r.whole;
    })
