-- Numbers and f64 bits as lowercase hex digits, the high digit first. Assumes nothing.
use Rattle.std.specs.Prelude.{ℕ, zero, suc, ◌+◌, ◌-◌, ◌*◌, ◌/◌, ◌%◌, ◌≤◌, ◌≡◌, Bool, true, cond, Option, None, Some, List, [], ◌∷◌, ◌++◌, ltb, leb, length, get_or, Float}
use Rattle.std.specs.Float.{binary64}
use Rattle.std.specs.Float.Ieee.{to_bits, is_nan}
use Rattle.steps.specs.Num.{lit}
use Rattle.hexdigits.specs.All.{all}

-- the value of a digit, 0 to 9 and a to f; 16 for a byte that is no digit
unfoldable pub value : ℕ → ℕ
value b = cond (ltb b 48) 16 (cond (leb b 57) (b - 48) (cond (ltb b 97) 16 (cond (leb b 102) (b - 87) 16)))

-- the same, if the byte is a digit
unfoldable pub digit : ℕ → Option ℕ
digit b = cond (ltb (value b) 16) (Some (value b)) None

-- the digit of a value below 16
unfoldable pub glyph : ℕ → ℕ
glyph d = cond (ltb d 10) (48 + d) (87 + d)

-- whether the n bytes of s from a on are all digits
unfoldable pub all_hex : List ℕ → ℕ → ℕ → Bool
all_hex s a n = all (λ i. ltb (value (get_or s (a + i) 0)) 16) n

-- the number that the n digits of s from a on write
unfoldable pub number_at : List ℕ → ℕ → ℕ → ℕ
number_at s a zero = 0
number_at s a (suc n) = number_at s a n * 16 + value (get_or s (a + n) 0)

-- s has n digits from a on
pub record Digits (s : List ℕ) (a n : ℕ) : Type 0 where
  pub within : a + n ≤ length s
  pub good : all_hex s a n ≡ true

-- the f64 whose bits the 16 digits of s from a on write
abbrev pub float : List ℕ → ℕ → Float
float s a = lit (number_at s a 16)

-- the n digits of w
unfoldable pub digits : ℕ → ℕ → List ℕ
digits zero w = []
digits (suc n) w = digits n (w / 16) ++ (glyph (w % 16) ∷ [])

-- the bits of an f64, NaN as 7ff8000000000000
unfoldable pub bits : Float → ℕ
bits x = cond (is_nan x) 0x7ff8000000000000 (to_bits binary64 x)

abbrev pub newline : ℕ
newline = 10

-- the n digits of w and a newline
abbrev pub line : ℕ → ℕ → List ℕ
line n w = digits n w ++ (newline ∷ [])
