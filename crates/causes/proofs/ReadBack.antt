-- Reading back an answer gives the code, the refit number and the coefficient of each cause that was written. Assumes nothing.
use Rattle.std.specs.Prelude.{Ok, Some, ◌≡◌, List, ◌∷◌, ◌++◌, ℕ, ◌+◌, ◌*◌, ◌^◌, ◌<◌, T, length}
use Rattle.std.proofs.Common.{◌∙◌, append_assoc, arith, length-append}
use Rattle.std.specs.Float.{binary64}
use Rattle.std.specs.Float.Ieee.{fits}
use Rattle.hexdigits.specs.Hex.{digits, bits, newline}
use Rattle.hexdigits.specs.ReadBack.{length_digits, number_in, float_back}
use Rattle.rule.specs.declared.Task.{Task}
use Rattle.reader.specs.Header.{head_of}
use Rattle.exchange.specs.Exchange.{answer_lines}
use Rattle.why.specs.Codes.{cause_code, cause_refit, cause_value}
use Rattle.why.specs.declared.Cause.{Cause}
use Rattle.causes.specs.Lines.{cause_line, cause_bytes, cause_lines}
use Rattle.causes.specs.LineLaws.{Within, length_causes, line_at}
use Rattle.causes.specs.Exchange.{why_checked, cause_asked, causes_of}
use Rattle.causes.specs.Cases.{causes_good}
use Rattle.causes.specs.ReadBack.{Says}
use Rattle.causes.proofs.InDigits.{code_within, refit_within, value_within}

-- a line says what was written, where its digits hold it
line_read_back : (text before : List ℕ) (a : ℕ) (c : Cause) → Within text before (cause_line c) → length before ≡ a
    → cause_refit c < 16 ^ 4 → T (fits binary64 (cause_value c)) → Says text a c
unfolding cause_line
line_read_back text before a c at len r f =
    let code = digits 2 (cause_code c) in
    let refit = digits 4 (cause_refit c) in
    let value = digits 16 (bits (cause_value c)) in
    let front = before ++ (code ++ refit) in
    let place : length front ≡ a + 6 = simp (length-append, length_digits) (omega (arith, len)) in
    let whole : text ≡ front ++ (value ++ (newline ∷ at.after)) = at.is ∙ simp append_assoc in
    record {
      code = number_in text before (refit ++ (value ++ (newline ∷ at.after))) a 2 _ (at.is ∙ simp append_assoc) len (code_within c);
      refit = number_in text (before ++ code) (value ++ (newline ∷ at.after)) (a + 2) 4 _ (at.is ∙ simp append_assoc) (simp (length-append, length_digits) (omega (arith, len))) r;
      value = rw (whole, ← place) (float_back (cause_value c) front (newline ∷ at.after) f);
    }

-- the answer to an accepted input says the cause of each term: its code, its refit number and its coefficient, a NaN as a NaN
pub causes_read_back : (s : List ℕ) (task : Task) → head_of s ≡ Some task → why_checked s task ≡ Ok tt → (j : ℕ) → j < task.cols
    → Says (causes_of s) (cause_bytes * j) (cause_asked s task j)
unfolding answer_lines
causes_read_back s task e ok j below =
    let why = cause_asked s task in
    rw (causes_good s task (Ok tt) e ok)
    (line_read_back (cause_lines why task.cols) (cause_lines why j) _ _ (line_at why j _ below) (length_causes why j) (refit_within s task ok j below) (value_within s task ok j below))
