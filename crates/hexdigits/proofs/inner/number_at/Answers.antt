-- `number_at`: each byte of the run is a digit, and sixteen of them are 64 bits. Assumes nothing.
use Rattle.std.proofs.Common.{◌≡◌, sym, ap, ◌∙◌, ℕ, ◌+◌, ◌*◌, ◌^◌, ◌≤◌, ◌<◌, arith, add-one, pow-suc, le_of_suc-le-suc, lit<}
use Rattle.std.proofs.Math.Nat.{pow-le-pow_right}
use Rattle.hexdigits.specs.Hex.{value, number_at}
use Rattle.hexdigits.specs.Parts.{number_none, number_more, hex_at}
use Rattle.hexdigits.proofs.Runs.{run_long, run_byte, digit_known, digit_is}
use Rattle.hexdigits.proofs.inner.number_at.Goals as goal

room : (i : ℕ) → i < 16 → 16 ^ i ≤ 16 ^ 15
room i h = pow-le-pow_right (lit< tt) (le_of_suc-le-suc h)

pow_more : (i : ℕ) → 16 ^ (i + 1) ≡ 16 ^ i * 16
pow_more i = rw add-one (pow-suc 16 i)

pub loop-b-init : goal.loop-b-init
loop-b-init c = (sym (number_none _ _), omega arith)

pub unwrap-requires : goal.unwrap-requires
unwrap-requires c =
    let a = c.args in
    let below = hex_at a.s.now a.at a.n c.loop-b.b-index c.requires.0.good (omega (arith, run_long a.s.now a.at a.n c.requires.0.within)) in
    rw (c.value.ensures, run_byte a.s.now a.at a.n _ c.loop-b-test.true, digit_known _ below)

pub overflow_mul-w : goal.overflow_mul-w
overflow_mul-w c =
    let a = c.args in omega (arith, room c.loop-b.b-index (omega (arith, run_long a.s.now a.at a.n c.requires.0.within)))

pub overflow_add-w : goal.overflow_add-w
overflow_add-w c =
    let a = c.args in
    omega (arith, room c.loop-b.b-index (omega (arith, run_long a.s.now a.at a.n c.requires.0.within)), digit_is _ _ (sym c.value.ensures ∙ c.unwrap.ensures))

pub loop-b-preserved : goal.loop-b-preserved
loop-b-preserved c =
    let a = c.args in
    let i = c.loop-b.b-index in
    let is = digit_is _ _ (sym c.value.ensures ∙ c.unwrap.ensures) in
    let here = ap value (run_byte a.s.now a.at a.n i c.loop-b-test.true) in
    (omega (arith, number_more a.s.now a.at i, is, here), omega (arith, pow_more i, is))

pub returns : goal.returns
returns c =
    let a = c.args in
    let e : c.loop-b.b-index ≡ a.n = omega (arith, run_long a.s.now a.at a.n c.requires.0.within) in
    c.loop-b.invariant.0 ∙ ap (number_at a.s.now a.at) e
