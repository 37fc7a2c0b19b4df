-- How long the lines of an answer are, and how they join. Assumes nothing.
use Rattle.std.specs.Prelude.{◌≡◌, refl, List, [], ◌∷◌, ◌++◌, ℕ, ◌*◌, length, Float}
use Rattle.std.proofs.Common.{sym, ap, ◌∙◌, append_assoc, arith, length-append}
use Rattle.hexdigits.specs.Hex.{digits, bits, line, newline}
use Rattle.hexdigits.specs.ReadBack.{length_digits}
use Rattle.rule.specs.declared.Report.{Report}
use Rattle.writer.specs.Answer.{report_line, report_bytes, coefficient_lines, coefficient_bytes}

pub lines_append : (xs ys : List Float) → coefficient_lines (xs ++ ys) ≡ coefficient_lines xs ++ coefficient_lines ys
unfolding coefficient_lines
lines_append [] ys = refl
lines_append (x ∷ xs) ys = ap (λ (t : List ℕ). line 16 (bits x) ++ t) (lines_append xs ys) ∙ sym (append_assoc (line 16 (bits x)) (coefficient_lines xs) (coefficient_lines ys))

pub length_lines : (xs : List Float) → length (coefficient_lines xs) ≡ coefficient_bytes * length xs
unfolding coefficient_lines
length_lines [] = refl
length_lines (x ∷ xs) = omega (arith, length-append (line 16 (bits x)) (coefficient_lines xs), length-append (digits 16 (bits x)) (newline ∷ []), length_digits 16 (bits x), length_lines xs)

pub length_report : (r : Report) → length (report_line r) ≡ report_bytes
unfolding report_line
length_report r = simp (length-append, length_digits)
