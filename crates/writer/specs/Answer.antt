-- The lines of an answer. Assumes nothing.
use Rattle.std.specs.Prelude.{ℕ, ◌+◌, List, [], ◌∷◌, ◌++◌, Float}
use Rattle.hexdigits.specs.Hex.{digits, bits, line}
use Rattle.refusal.specs.Answers.{number}
use Rattle.refusal.specs.declared.Refusal.{Refusal}
use Rattle.rule.specs.Codes.{stop_code, stop_term}
use Rattle.rule.specs.declared.Report.{Report}

-- a refusal prints only ff and its number in two digits
unfoldable pub refusal_line : Refusal → List ℕ
refusal_line w = digits 2 0xff ++ line 2 (number w)

-- stop (2), refits (4), kept word (16), refused term (2), squared error (16)
unfoldable pub report_line : Report → List ℕ
report_line r =
    digits 2 (stop_code r.stop) ++ digits 4 r.refits ++ digits 16 r.kept.0 ++ digits 2 (stop_term r.stop) ++ line 16 (bits r.error)

-- its bytes, with the newline
abbrev pub report_bytes : ℕ
report_bytes = 2 + 4 + 16 + 2 + 16 + 1

-- a line of 16 digits for each coefficient
unfoldable pub coefficient_lines : List Float → List ℕ
coefficient_lines [] = []
coefficient_lines (x ∷ xs) = line 16 (bits x) ++ coefficient_lines xs

-- the bytes of one of these
abbrev pub coefficient_bytes : ℕ
coefficient_bytes = 16 + 1
