-- Rows of the root, the absolute value and the greater of two beside document 01's R1 to R5 (table/Marked), as patterns. Each closes by computing.
use Rattle.std.specs.Prelude.{◌≡◌, ℕ, refl}
use Rattle.std.specs.Float.{binary64}
use Rattle.std.specs.Float.Ieee.{round, lt, is_nan, of_bits, to_bits}
use Rattle.float64.specs.Root.{isqrt, units, nearest_root, root_of, abs_of, greater_of}

-- all that a row computes with: `unfolding computed` opens it
unfoldable pub computed : Unit {0}
unfolding round lt is_nan of_bits to_bits isqrt units nearest_root root_of abs_of greater_of
computed = tt

abbrev root : ℕ → ℕ
root b = to_bits binary64 (root_of (of_bits binary64 b))

-- of -1, of -infinity and of infinity
pub R_minus : root 0xbff0_0000_0000_0000 ≡ 0x7ff8_0000_0000_0000
unfolding computed
R_minus = refl

pub R_minus_inf : root 0xfff0_0000_0000_0000 ≡ 0x7ff8_0000_0000_0000
unfolding computed
R_minus_inf = refl

pub R_inf : root 0x7ff0_0000_0000_0000 ≡ 0x7ff0_0000_0000_0000
unfolding computed
R_inf = refl

abbrev magnitude : ℕ → ℕ
magnitude b = to_bits binary64 (abs_of (of_bits binary64 b))

-- of -0.0 and of -infinity
pub A_zero : magnitude 0x8000_0000_0000_0000 ≡ 0
unfolding computed
A_zero = refl

pub A_inf : magnitude 0xfff0_0000_0000_0000 ≡ 0x7ff0_0000_0000_0000
unfolding computed
A_inf = refl

abbrev larger : ℕ → ℕ → ℕ
larger a b = to_bits binary64 (greater_of (of_bits binary64 a) (of_bits binary64 b))

-- a NaN on either side is passed over; of -0.0 and 0.0 the first
pub G_left : larger 0x7ff8_0000_0000_0000 0x3ff0_0000_0000_0000 ≡ 0x3ff0_0000_0000_0000
unfolding computed
G_left = refl

pub G_right : larger 0x3ff0_0000_0000_0000 0x7ff8_0000_0000_0000 ≡ 0x3ff0_0000_0000_0000
unfolding computed
G_right = refl

pub G_equal : larger 0x8000_0000_0000_0000 0 ≡ 0x8000_0000_0000_0000
unfolding computed
G_equal = refl
