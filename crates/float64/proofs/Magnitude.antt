-- The pattern without its sign's bit is the absolute value's. Assumes nothing.
use Rattle.std.proofs.Common.{◌≡◌, ℕ, zero, suc, ◌%◌, ◌<◌, Bool, true, false, not, T, ℤ, sym, refl, ap, ◌∙◌, subst, mod-eq_of_lt, arith}
use lib.Ieee.{Float, binary64, fits, of_bits, nan, inf, fin, is_nan, to_bits, nan_bits}
use lib.Ieee.Bits.{of_bits-to_bits, nan_bits_is, to_bits-lt}
use Rattle.float64.specs.Root.{abs_of}

pub abs_nan : (x : Float) → x ≡ nan → x ≡ abs_of x
unfolding abs_of
abs_nan x h = h ∙ sym (ap abs_of h)

-- the sign does not matter to the fit, and the magnitude's pattern is below the sign's bit
fits_abs : (x : Float) → T (fits binary64 x) → T (fits binary64 (abs_of x))
unfolding fits abs_of
fits_abs nan f = tt
fits_abs (inf s) f = tt
fits_abs (fin s zero e) f = f
fits_abs (fin s (suc m) e) f = f

fits_neg : (m : ℕ) (e : ℤ) → T (fits binary64 (fin false m e)) → T (fits binary64 (fin true m e))
unfolding fits
fits_neg zero e f = f
fits_neg (suc m) e f = f

mag_lt : (m : ℕ) (e : ℤ) → T (fits binary64 (fin false m e)) → to_bits binary64 (fin false m e) < 0x8000_0000_0000_0000
unfolding to_bits
mag_lt m e f = omega (arith, to_bits-lt binary64 (fin true m e) (fits_neg m e f))

bits_abs : (x : Float) → T (fits binary64 x) → T (not (is_nan x)) → to_bits binary64 x % 0x8000_0000_0000_0000 ≡ to_bits binary64 (abs_of x)
unfolding to_bits abs_of is_nan
bits_abs nan f h = absurd h
bits_abs (inf true) f h = refl
bits_abs (inf false) f h = refl
bits_abs (fin false m e) f h = mod-eq_of_lt (mag_lt m e f)
bits_abs (fin true m e) f h = omega (arith, mag_lt m e (fits_abs (fin true m e) f))

-- so it reads as the absolute value, which is no NaN
pub back_abs : (x : Float) → T (fits binary64 x) → T (not (is_nan x)) → of_bits binary64 (to_bits binary64 x % 0x8000_0000_0000_0000) ≡ abs_of x
back_abs x f h = ap (of_bits binary64) (bits_abs x f h) ∙ of_bits-to_bits binary64 (abs_of x) (fits_abs x f)

no_nan_abs : (x : Float) → T (not (is_nan x)) → T (not (is_nan (abs_of x)))
unfolding is_nan abs_of
no_nan_abs nan h = h
no_nan_abs (inf s) h = tt
no_nan_abs (fin s m e) h = tt

pub pattern_abs : (x : Float) → T (fits binary64 x) → T (not (is_nan x)) → T (not (nan_bits binary64 (to_bits binary64 x % 0x8000_0000_0000_0000)))
pattern_abs x f h = subst (λ (t : Bool). T (not t)) (sym (nan_bits_is binary64 _ ∙ ap is_nan (back_abs x f h))) (no_nan_abs x h)
