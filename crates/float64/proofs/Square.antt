-- The whole part of a root: `isqrt` has it, and it scales. Assumes nothing.
use Rattle.std.proofs.Common.{◌≡◌, ℕ, zero, suc, ◌+◌, ◌*◌, ◌/◌, ◌^◌, ◌<◌, ◌≤◌, Bool, true, false, cond, not, T, leb, sym, le_trans, le_of_eq, le_of_suc-le-suc, mul-le-mul_right, add-mul, mul-le-mul, mul-lt-mul_of_pos_right, mul-pos, pow-suc, lt_of_not-le, mul-add, not-le_of_lt, arith, leb→le}
use native.Mathlib.Nat.{mul-mul-mul_comm}
use lib.Dec.{nleb→lt}
use Rattle.float64.specs.Parts.{WholePart}
use Rattle.float64.specs.Root.{isqrt}

pub sq_twice : (r : ℕ) → 2 * r * (2 * r) ≡ 4 * (r * r)
sq_twice r = mul-mul-mul_comm 2 r 2 r

pub sq_next : (r : ℕ) → (r + 1) * (r + 1) ≡ r * r + 2 * r + 1
sq_next r =
    let a : (r + 1) * (r + 1) ≡ r * (r + 1) + 1 * (r + 1) = add-mul r 1 (r + 1) in
    let b : r * (r + 1) ≡ r * r + r * 1 = mul-add r r 1 in
    omega arith

isqrt_step : (r n : ℕ) → r * r ≤ n / 4 → n / 4 < (r + 1) * (r + 1) → (b : Bool) →
    (T b → (2 * r + 1) * (2 * r + 1) ≤ n) → (T (not b) → n < (2 * r + 1) * (2 * r + 1)) → WholePart n (cond b (2 * r + 1) (2 * r))
isqrt_step r n l h true y z = record { lo = y tt; hi = omega (arith, sq_next (2 * r + 1), sq_next (2 * r), sq_twice r, sq_next r) }
isqrt_step r n l h false y z = record { lo = omega (arith, sq_twice r); hi = z tt }

pub isqrt_whole : (d n : ℕ) → n < 4 ^ d → WholePart n (isqrt d n)
unfolding isqrt
isqrt_whole zero n h = record { lo = omega arith; hi = omega arith }
isqrt_whole (suc d) n h =
    let k : n / 4 < 4 ^ d = omega (arith, pow-suc 4 d) in
    let w = isqrt_whole d (n / 4) k in
    let r = isqrt d (n / 4) in
    isqrt_step r n w.lo w.hi (leb ((2 * r + 1) * (2 * r + 1)) n) (leb→le ((2 * r + 1) * (2 * r + 1)) n) (nleb→lt ((2 * r + 1) * (2 * r + 1)) n)

-- numbers that are in order have squares in order
no_less : (n r s : ℕ) → n < (r + 1) * (r + 1) → s * s ≤ n → r < s → ⊥
no_less n r s h l g =
    let k : (r + 1) * (r + 1) ≤ s * s = mul-le-mul (omega arith) (omega arith) in
    omega arith

pub below : (n r s : ℕ) → n < (r + 1) * (r + 1) → s * s ≤ n → s ≤ r
below n r s h l = le_of_suc-le-suc (lt_of_not-le (λ (g : suc r ≤ s). no_less n r s h l g))

-- the whole part q of a's root times c is the whole part of the root of a * c ^ 2, but for what is below c
pub whole_scale_lo : (a c q r : ℕ) → WholePart a q → WholePart (a * (c * c)) r → q * c ≤ r
whole_scale_lo a c q r v w = below (a * (c * c)) r (q * c) w.hi (le_trans (le_of_eq (mul-mul-mul_comm q c q c)) (mul-le-mul_right (c * c) v.lo))

pub whole_scale_hi : (a c q r : ℕ) → 0 < c → WholePart a q → WholePart (a * (c * c)) r → r < (q + 1) * c
whole_scale_hi a c q r C v w = lt_of_not-le (λ (g : (q + 1) * c ≤ r).
    not-le_of_lt (mul-lt-mul_of_pos_right v.hi (mul-pos C C))
    (le_trans (le_of_eq (sym (mul-mul-mul_comm (q + 1) c (q + 1) c))) (le_trans (mul-le-mul g g) w.lo)))
