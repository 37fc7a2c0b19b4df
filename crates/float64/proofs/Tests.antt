-- What the tests `x != x`, `is_nan`, `x == 0.0` and `x < 0.0` say of a value, and the greater of two. Assumes nothing.
use Rattle.std.proofs.Common.{◌≡◌, ℕ, zero, suc, ◌+◌, ◌*◌, ◌%◌, ◌^◌, ◌<◌, Bool, true, false, cond, not, ◌&&◌, ◌||◌, T, eqb, ℤ, sym, refl, ap, ◌∙◌, subst, true≢false, zero-lt-suc, mul-pos, zero-mul, mul-one, arith, eqb→eq, le-ltb, eq-eqb}
use mathlib.Core.Bool.{beq}
use lib.Ieee.{Float, binary64, nan, inf, fin, up, down, lt, is_nan, ne, nan_bits}
use lib.Ieee.Bits.{nan_bits_above, cond_no}
use lib.Ieee.Compare.{differs_from_itself}
use lib.Ieee.Fits.{up_pos, and_l}
use Rattle.float64.specs.Root.{greater_of}

-- ---- x != x
pub is_nan_lem : (x : Float) → ne x x ≡ true → x ≡ nan
is_nan_lem x h = differs_from_itself x (subst T (sym h) tt)

pub no_nan : (x : Float) → ne x x ≡ false → T (not (is_nan x))
unfolding ne is_nan
no_nan nan h = absurd (true≢false h)
no_nan (inf s) h = tt
no_nan (fin s m e) h = tt

-- ---- is_nan
pub told_nan : (x : Float) → is_nan x ≡ true → x ≡ nan
unfolding is_nan
told_nan nan h = refl
told_nan (inf s) h = absurd (true≢false (sym h))
told_nan (fin s m e) h = absurd (true≢false (sym h))

pub told_number : (x : Float) → is_nan x ≡ false → T (not (is_nan x))
told_number x h = subst (λ (t : Bool). T (not t)) (sym h) tt

-- what is below the infinity's pattern is no NaN's
pub below_inf : (r : ℕ) → r < 0x7ff0_0000_0000_0000 → T (not (nan_bits binary64 r))
below_inf r h = subst (λ (t : Bool). T (not t)) (sym (nan_bits_above binary64 r ∙ le-ltb 0x7ff0_0000_0000_0000 (r % 2 ^ 63) (omega arith))) tt

-- ---- x == 0.0: a finite value's test, with the value as the fraction m * up e over down e
pub no_digits : (s : Bool) (m : ℕ) (e : ℤ) → (eqb (m * up e * 1) (0 * down e) && (beq s false || eqb (m * up e * 1) 0)) ≡ true → m ≡ 0
no_digits s zero e h = refl
no_digits s (suc m) e h =
    let z = eqb→eq (suc m * up e * 1) (0 * down e) (and_l (eqb (suc m * up e * 1) (0 * down e)) (beq s false || eqb (suc m * up e * 1) 0) (subst T (sym h) tt)) in
    absurd (omega (arith, z, zero-mul (down e), mul-one (suc m * up e), mul-pos (zero-lt-suc m) (up_pos e)))

pub some_digits : (m : ℕ) (e : ℤ) → (eqb (m * up e * 1) (0 * down e) && true) ≡ false → m ≡ 0 → ⊥
some_digits zero e k z = true≢false (sym (ap (λ (t : Bool). t && true) (eq-eqb (0 * up e * 1) (0 * down e) (omega (arith, zero-mul (up e), zero-mul (down e))))) ∙ k)
some_digits (suc m) e k z = omega arith

-- ---- x < 0.0
pub digits_below : (m : ℕ) (e : ℤ) → 0 < m * up e * 1 + 0 * down e → m ≡ 0 → ⊥
digits_below zero e h z = omega (arith, h, zero-mul (up e), zero-mul (down e))
digits_below (suc m) e h z = omega arith

-- ---- the greater of two
pub greater_nan : (x y : Float) → x ≡ nan → y ≡ greater_of x y
unfolding greater_of is_nan
greater_nan x y h = sym (ap (λ (v : Float). greater_of v y) h)

pub greater_is : (x y : Float) (b : Bool) → T (not (is_nan x)) → lt x y ≡ b → cond b y x ≡ greater_of x y
unfolding greater_of
greater_is x y b h k = sym (cond_no (is_nan x) y (cond (lt x y) y x) h ∙ ap (λ (t : Bool). cond t y x) k)
