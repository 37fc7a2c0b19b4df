-- f64 in short: the operations and literals as the code's goals show them, and the entries of a list. Assumes nothing.
use Rattle.std.specs.Prelude.{ℕ, ◌+◌, ◌*◌, List, get_or, Float}
use Rattle.std.specs.Float.{nan, binary64}
use Rattle.std.specs.Float.Ieee.{of_bits, add, sub, mul, div, neg}

-- x + y, x - y, x * y and x / y of the code, each rounded once
abbrev pub plus : Float → Float → Float
plus x y = add binary64 x y

abbrev pub less : Float → Float → Float
less x y = sub binary64 x y

abbrev pub times : Float → Float → Float
times x y = mul binary64 x y

abbrev pub over : Float → Float → Float
over x y = div binary64 x y

-- the number of the pattern b: a literal
abbrev pub lit : ℕ → Float
lit b = of_bits binary64 b

-- +0.0 and -0.0
abbrev pub +zero : Float
+zero = lit 0

abbrev pub -zero : Float
-zero = neg +zero

abbrev pub one : Float
one = lit 0x3ff0000000000000

abbrev pub -one : Float
-one = neg one

abbrev pub two : Float
two = lit 0x4000000000000000

-- 1e-14, 1e-15 and 1e-30
abbrev pub 1e-14 : Float
1e-14 = lit 0x3d06849b86a12b9b

abbrev pub 1e-15 : Float
1e-15 = lit 0x3cd203af9ee75616

abbrev pub 1e-30 : Float
1e-30 = lit 0x39b4484bfeebc2a0

-- the number at i; outside of the list a NaN, as everywhere in these rules
abbrev pub at : List Float → ℕ → Float
at l i = get_or l i nan

-- a matrix that is only read: a way to find row i, column j, so that no rule says how it is stored (today by rows; a later order stores theta by columns)
abbrev pub Entry : Type 0
Entry = ℕ → ℕ → Float

-- row i, column j of a matrix of n columns that is stored by rows
abbrev pub cell : ℕ → List Float → Entry
cell n l i j = get_or l (i * n + j) nan
