-- The lines of the causes. Assumes nothing.
use Rattle.std.specs.Prelude.{ℕ, zero, suc, ◌+◌, List, [], ◌++◌}
use Rattle.hexdigits.specs.Hex.{digits, bits, line}
use Rattle.why.specs.Codes.{cause_code, cause_refit, cause_value}
use Rattle.why.specs.declared.Cause.{Cause}

-- cause (2), refit number (4), coefficient (16), zeros where the cause has none; a NaN as 7ff8000000000000
unfoldable pub cause_line : Cause → List ℕ
cause_line c = digits 2 (cause_code c) ++ digits 4 (cause_refit c) ++ line 16 (bits (cause_value c))

-- its bytes, with the newline
abbrev pub cause_bytes : ℕ
cause_bytes = 2 + 4 + 16 + 1

-- a line for each of n terms, rising
unfoldable pub cause_lines : (ℕ → Cause) → ℕ → List ℕ
cause_lines why zero = []
cause_lines why (suc n) = cause_lines why n ++ cause_line (why n)
