-- The root by document 01's rule, stated over whole numbers and without computing it, and the contract of `sqrt`, which is this rule with the number that
-- `root_of` computes. That only this number meets the rule is `root_only` in proofs/Rule.antt.
use Rattle.std.specs.Prelude.{◌≡◌, ℕ, ◌+◌, ◌-◌, ◌*◌, ◌/◌, ◌%◌, ◌^◌, ◌<◌, false, cond, T, pos, ◌==◌, to_bits, Float}
use Rattle.std.specs.Float.{nan, inf, fin, binary64}
use Rattle.std.specs.Float.Ieee.{eq, lt}
use Rattle.std.specs.Float.Ieee.Positive.{positive}
use Rattle.float64.specs.Root.{units, root_of}

-- the units, of 2 ^ -1074 each, of the value whose pattern is b; the pattern after the largest finite one's counts as the value that would come next
unfoldable pub units_of : ℕ → ℕ
units_of b = cond (b / 2 ^ 52 == 0) (b % 2 ^ 52) ((2 ^ 52 + b % 2 ^ 52) * 2 ^ (b / 2 ^ 52 - 1))

-- The f64 of pattern b is nearest the exact root of n units: with both sides scaled to integers, n lies strictly between the squares of the two midpoints
-- around it. In units the root is √(n * 2 ^ 1074), and a midpoint is half the sum of b's units and a neighbour's: both sides are doubled and squared.
pub record Nearest (n b : ℕ) : Type 0 where
  pub some : 0 < b
  pub low : (units_of (b - 1) + units_of b) * (units_of (b - 1) + units_of b) < 4 * (n * 2 ^ 1074)
  pub high : 4 * (n * 2 ^ 1074) < (units_of b + units_of (b + 1)) * (units_of b + units_of (b + 1))

abbrev zero : Float
zero = fin false 0 (pos 0)

-- r is the root of x: for positive finite x the f64 nearest the exact root; ±0 give themselves, +infinity itself, NaN and negatives below zero a NaN
pub record IsRoot (x r : Float) : Type 0 where
  pub of_number : T (positive x) → Nearest (units x) (to_bits binary64 r)
  pub of_zero : T (eq x zero) → r ≡ x
  pub of_inf : x ≡ inf false → r ≡ inf false
  pub of_nan : x ≡ nan → r ≡ nan
  pub of_minus : T (lt x zero) → r ≡ nan

-- what `sqrt` gives: the root by document 01's rule, which is the number that `root_of` computes
pub record SqrtCall (x r : Float) : Type 0 where
  pub rule : IsRoot x r
  pub value : r ≡ root_of x
