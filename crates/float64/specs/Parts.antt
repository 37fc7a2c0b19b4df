-- What the steps of the root hand on: numbers of 53 and 54 digits, and at the end a pattern.
use Rattle.std.specs.Prelude.{◌≡◌, ℕ, ◌+◌, ◌*◌, ◌/◌, ◌^◌, ◌<◌, ◌≤◌, from_bits}
use Rattle.std.specs.Float.{binary64}
use Rattle.float64.specs.Root.{nearest_root}

-- r is the whole part of n's root
pub record WholePart (n r : ℕ) : Type 0 where
  pub lo : r * r ≤ n
  pub hi : n < (r + 1) * (r + 1)

-- m is half the whole part of the root of s * 2 ^ 54, a half rounded up: the nearest whole number to the root of s * 2 ^ 52
pub record Halved (s m : ℕ) : Type 0 where
  pub q : ℕ
  pub whole : WholePart (s * 2 ^ 54) q
  pub half : (q + 1) / 2 ≡ m

-- s * 2 ^ e is n * 2 ^ 52, where s has 53 digits; n units of binary64 are never more than e allows
pub record Widened (n s e : ℕ) : Type 0 where
  pub same : s * 2 ^ e ≡ n * 2 ^ 52
  pub low : 2 ^ 52 ≤ s
  pub high : s < 2 ^ 53
  pub most : e ≤ 2097

-- r is the pattern of the root of n units
pub record Rooted (n r : ℕ) : Type 0 where
  pub reads : from_bits binary64 r ≡ nearest_root n
  pub small : r < 0x7ff0_0000_0000_0000
