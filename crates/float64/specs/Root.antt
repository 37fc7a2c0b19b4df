-- The root, the absolute value and the greater of two of binary64's values, as definitions that compute.
use Rattle.std.specs.Prelude.{ℕ, zero, suc, ◌+◌, ◌*◌, ◌/◌, ◌^◌, false, cond, ◌==◌, is_nan, nat_le, Float}
use Rattle.std.specs.Float.{nan, inf, fin, binary64}
use Rattle.std.specs.Float.Ieee.{up, down, round, lt}

-- the whole part of n's root, for an n below 4 ^ d: that of n without its two lowest binary digits, and then one digit more
unfoldable pub isqrt : ℕ → ℕ → ℕ
isqrt zero n = 0
isqrt (suc d) n = let r = 2 * isqrt d (n / 4) in cond (nat_le ((r + 1) * (r + 1)) n) (r + 1) r

-- a finite value's magnitude in units of the smallest value, 2 ^ -1074: a whole number for what binary64 holds
unfoldable pub units : Float → ℕ
units nan = 0
units (inf s) = 0
units (fin s m e) = m * up e * 2 ^ 1074 / down e

-- The root of n units is √(n * 2 ^ 1074) units. Its whole part, of 538 digits or more, is rounded once to the 53 that are kept. That rounds the root itself:
-- no root is midway between two values of binary64, or so near to midway that what the whole part leaves off matters. (n is below 2 ^ 2098.)
unfoldable pub nearest_root : ℕ → Float
nearest_root n = round binary64 false (isqrt 1586 (n * 2 ^ 1074)) (2 ^ 1074)

-- the root: ±0 give themselves, +infinity itself, NaN and negatives below zero a NaN, and a positive finite number the nearest to its exact root
unfoldable pub root_of : Float → Float
root_of nan = nan
root_of (inf s) = cond s nan (inf false)
root_of (fin s m e) = cond (m == 0) (fin s m e) (cond s nan (nearest_root (units (fin s m e))))

-- the absolute value: the sign cleared, and a NaN stays
unfoldable pub abs_of : Float → Float
abs_of nan = nan
abs_of (inf s) = inf false
abs_of (fin s m e) = fin false m e

-- the greater of two, NaN passed over; of two equal ones the first
unfoldable pub greater_of : Float → Float → Float
greater_of x y = cond (is_nan x) y (cond (lt x y) y x)
