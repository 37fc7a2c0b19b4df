-- The value that a pattern stands for, and the pattern of a finite value above zero. Assumes nothing.
use Rattle.std.proofs.Common.{◌≡◌, ℕ, zero, suc, ◌+◌, ◌-◌, ◌*◌, ◌/◌, ◌%◌, ◌^◌, ◌<◌, ◌≤◌, Bool, true, false, cond, not, ◌&&◌, ◌||◌, T, eqb, ltb, leb, sym, refl, ap, ◌∙◌, subst, true≢false, zero-mul, mul-one, arith, ltb-false, ne_eqb, leb-false}
use lib.Dec.{eqb-suc-zero}
use borrow.Author.Tests.{lt-leb}
use lib.Ieee.{Float, binary64, fits, of_bits, nan, inf, fin, up, down, eq, lt, is_nan, to_bits, odd, of_fields}
use lib.Ieee.Bits.{of_bits-to_bits, nan_bits_is, is_false, nan_bits_above}
use lib.Ieee.Exact.{HasValue, odd_sign}
use Rattle.float64.specs.Rule.{units_of}

-- ---- the sign, in the pattern and by the tests
abbrev sign : Float → Bool
sign nan = false
sign (inf s) = s
sign (fin s m e) = s

sign_odd : (d : ℕ) (s : Bool) (q k l : ℕ) → sign (odd d s q k l) ≡ s
unfolding odd
sign_odd d s zero k l = refl
sign_odd d s (suc q) k l = refl

sign_cond : (a b s : Bool) (v : Float) → sign v ≡ s → is_nan (cond a (cond b (inf s) nan) v) ≡ false → sign (cond a (cond b (inf s) nan) v) ≡ s
unfolding is_nan
sign_cond true true s v h n = refl
sign_cond true false s v h n = absurd (true≢false n)
sign_cond false b s v h n = h

sign_fields : (s : Bool) (x t : ℕ) → is_nan (of_fields binary64 s x t) ≡ false → sign (of_fields binary64 s x t) ≡ s
unfolding of_fields
sign_fields s zero t n = sign_odd 53 s t 0 1074
sign_fields s (suc x) t n = sign_cond (eqb (suc x) 2047) (eqb t 0) s (odd 53 s (2 ^ 52 + t) x 1074) (sign_odd 53 s (2 ^ 52 + t) x 1074) n

sign_bits : (b : ℕ) → is_nan (of_bits binary64 b) ≡ false → sign (of_bits binary64 b) ≡ leb (2 ^ 63) b
unfolding of_bits
sign_bits b n = sign_fields (leb (2 ^ 63) b) (b % 2 ^ 63 / 2 ^ 52) (b % 2 ^ 52) n

no_sign : (a b : ℕ) → b ≡ 0 → ltb 0 (a + b) ≡ false → (eqb a b && (false || eqb a 0)) ≡ false → ⊥
no_sign a b z h k =
    let y : a ≡ 0 = omega (arith, ltb-false 0 (a + b) h) in
    true≢false (subst (λ (u : ℕ). (eqb u 0 && (false || eqb u 0)) ≡ false) y (subst (λ (v : ℕ). (eqb a v && (false || eqb a 0)) ≡ false) z k))

no_minus : (x : Float) → eq x (of_bits binary64 0) ≡ false → lt x (of_bits binary64 0) ≡ false → sign x ≡ false
unfolding eq lt of_bits
no_minus nan k h = refl
no_minus (inf true) k h = absurd (true≢false h)
no_minus (inf false) k h = refl
no_minus (fin true m e) k h = absurd (no_sign (m * up e * 1) (0 * down e) (zero-mul (down e)) h k)
no_minus (fin false m e) k h = refl

-- ---- the value that a pattern stands for
abbrev units_at : ℕ → ℕ → ℕ
units_at x t = cond (eqb x 0) t ((2 ^ 52 + t) * 2 ^ (x - 1))

no_ones : (x : ℕ) → suc x < 2047 → suc x ≡ 2047 → ⊥
no_ones x h e = omega arith

fields_value : (x t : ℕ) → x < 2047 → HasValue (of_fields binary64 false x t) false (units_at x t) (2 ^ 1074)
unfolding of_fields
fields_value zero t h = subst (λ (u : ℕ). HasValue (odd 53 false t 0 1074) false u (2 ^ 1074)) (mul-one t) (odd_sign 53 false t 0 1074)
fields_value (suc x) t h =
    let z : suc x - 1 ≡ x = omega arith in
    subst (λ (v : Float). HasValue v false (units_at (suc x) t) (2 ^ 1074))
    (sym (ap (λ (a : Bool). cond a (cond (eqb t 0) (inf false) nan) (odd 53 false (2 ^ 52 + t) x 1074)) (ne_eqb (suc x) 2047 (no_ones x h))))
    (subst (λ (u : ℕ). HasValue (odd 53 false (2 ^ 52 + t) x 1074) false u (2 ^ 1074))
    (sym (ap (λ (a : Bool). cond a t ((2 ^ 52 + t) * 2 ^ (suc x - 1))) (eqb-suc-zero x) ∙ ap (λ (y : ℕ). (2 ^ 52 + t) * 2 ^ y) z))
    (odd_sign 53 false (2 ^ 52 + t) x 1074))

pub bits_value : (b : ℕ) → b < 0x7ff0_0000_0000_0000 → HasValue (of_bits binary64 b) false (units_of b) (2 ^ 1074)
unfolding of_bits units_of
bits_value b h =
    let z : b % 2 ^ 63 / 2 ^ 52 ≡ b / 2 ^ 52 = omega arith in
    subst (λ (s : Bool). HasValue (of_fields binary64 s (b % 2 ^ 63 / 2 ^ 52) (b % 2 ^ 52)) false (units_at (b / 2 ^ 52) (b % 2 ^ 52)) (2 ^ 1074)) (sym (lt-leb (2 ^ 63) b (omega arith)))
    (subst (λ (x : ℕ). HasValue (of_fields binary64 false x (b % 2 ^ 52)) false (units_at (b / 2 ^ 52) (b % 2 ^ 52)) (2 ^ 1074)) (sym z)
    (fields_value (b / 2 ^ 52) (b % 2 ^ 52) (omega arith)))

-- ---- the pattern of a finite value above zero
module _ (x : Float) (f : T (fits binary64 x)) (n : T (not (is_nan x)))
    (k : eq x (of_bits binary64 0) ≡ false) (h : lt x (of_bits binary64 0) ≡ false) (i : to_bits binary64 x ≡ 0x7ff0_0000_0000_0000 → ⊥) where
  abbrev b : ℕ
  b = to_bits binary64 x

  number : is_nan (of_bits binary64 b) ≡ false
  number = ap is_nan (of_bits-to_bits binary64 x f) ∙ is_false (is_nan x) n

  again : of_bits binary64 b ≡ x
  again = of_bits-to_bits binary64 x f

  under_sign : b < 2 ^ 63
  under_sign = leb-false (2 ^ 63) b (sym (sign_bits b number) ∙ ap sign again ∙ no_minus x k h)

  under_inf : b % 2 ^ 63 ≤ 0x7ff0_0000_0000_0000
  under_inf = ltb-false 0x7ff0_0000_0000_0000 (b % 2 ^ 63) (sym (nan_bits_above binary64 b) ∙ nan_bits_is binary64 b ∙ number)

  no_zero : b ≡ 0 → ⊥
  unfolding eq of_bits
  no_zero z = true≢false (subst (λ (v : Float). eq v (of_bits binary64 0) ≡ false) (sym again ∙ ap (of_bits binary64) z) k)

  pub in_range : (0 < b) × (b < 0x7ff0_0000_0000_0000)
  in_range = (omega (arith, no_zero), omega (arith, under_sign, under_inf, i))

  pub value : HasValue x false (units_of b) (2 ^ 1074)
  value = subst (λ (v : Float). HasValue v false (units_of b) (2 ^ 1074)) again (bits_value b in_range.1)
