-- Reading back an answer gives the report and the coefficients that were written. Assumes nothing.
use Rattle.std.specs.Prelude.{Ok, Some, ◌≡◌, refl, List, [], ◌∷◌, ◌++◌, ℕ, suc, ◌+◌, ◌*◌, ◌^◌, ◌<◌, T, length, take, drop, Float}
use Rattle.std.proofs.Common.{ap, ◌∙◌, append_assoc, arith, lit<, length-append, length-take-le}
use Rattle.std.proofs.Math.Seq.{split_at, append_snoc}
use Rattle.std.specs.Float.{nan, binary64}
use Rattle.std.specs.Float.Ieee.{fits}
use Rattle.steps.specs.Num.{at}
use Rattle.hexdigits.specs.Hex.{number_at, float, digits, bits, newline}
use Rattle.hexdigits.specs.ReadBack.{length_digits, number_in, float_back, float_in}
use Rattle.rule.specs.Rule.{Fit}
use Rattle.rule.specs.Calls.{report_of}
use Rattle.rule.specs.Codes.{stop_code, stop_term}
use Rattle.rule.proofs.Promises.{coefficients_fit}
use Rattle.rule.proofs.Errors.{error_fits}
use Rattle.rule.specs.declared.Task.{Task}
use Rattle.rule.specs.declared.Stop.{Stop}
use Rattle.rule.specs.declared.Stop.TheVariants.{NoData, FirstRefused, Empty, RefitRefused, Settled, OutOfRounds}
use Rattle.writer.specs.Answer.{report_line, report_bytes, coefficient_lines, coefficient_bytes}
use Rattle.reader.specs.Header.{head_of}
use Rattle.exchange.specs.Exchange.{target_asked, answer_lines}
use Rattle.exchange.specs.Reading.{target_fits}
use Rattle.frames.specs.Exchange.{checked, fit_asked, fit_lines, answer_of}
use Rattle.frames.specs.Cases.{answer_good, was_accepted}
use Rattle.writer.specs.Lines.{lines_append, length_lines, length_report}
use Rattle.frames.specs.InDigits.{refits_within, kept_within, term_within}

-- what the digits of an answer say of a fit
pub record Says (a : List ℕ) (f : Fit) : Type 0 where
  pub stop : number_at a 0 2 ≡ stop_code f.stop
  pub refits : number_at a 2 4 ≡ f.refits
  pub kept : number_at a 6 16 ≡ f.kept
  pub term : number_at a 22 2 ≡ stop_term f.stop
  pub error : float a 24 ≡ f.error
  pub coefficient : (j : ℕ) → j < length f.coeffs → float a (report_bytes + coefficient_bytes * j) ≡ at f.coeffs j

code_lt : (s : Stop) → stop_code s < 16 ^ 2
code_lt NoData = lit< tt
code_lt (FirstRefused t) = lit< tt
code_lt Empty = lit< tt
code_lt (RefitRefused t) = lit< tt
code_lt Settled = lit< tt
code_lt OutOfRounds = lit< tt

-- the line of coefficient j has those of the coefficients before it in front
line_at : (xs : List Float) (j : ℕ) → j < length xs → coefficient_lines xs ≡ coefficient_lines (take j xs) ++ (digits 16 (bits (at xs j)) ++ (newline ∷ coefficient_lines (drop (suc j) xs)))
unfolding coefficient_lines
line_at xs j h =
    ap coefficient_lines (split_at xs j nan h) ∙ lines_append (take j xs) _
    ∙ ap (λ (t : List ℕ). coefficient_lines (take j xs) ++ t) (append_snoc (digits 16 (bits (at xs j))) newline (coefficient_lines (drop (suc j) xs)))

module _ (report : List ℕ) (xs : List Float) (j : ℕ) (h : j < length xs) (f : T (fits binary64 (at xs j))) where
  coefficient_back : length report ≡ report_bytes → float (report ++ coefficient_lines xs) (report_bytes + coefficient_bytes * j) ≡ at xs j
  coefficient_back len =
      let before = report ++ coefficient_lines (take j xs) in
      let some : length (take j xs) ≡ j = length-take-le j xs (omega arith) in
      let place : length before ≡ report_bytes + coefficient_bytes * j = omega (arith, len, length-append report (coefficient_lines (take j xs)), length_lines (take j xs), some) in
      rw (line_at xs j h, ← append_assoc report (coefficient_lines (take j xs)), ← place) (float_back (at xs j) before _ f)

-- lines say what was written, where its digits hold it
lines_read_back : (f : Fit) → f.refits < 16 ^ 4 → f.kept < 16 ^ 16 → stop_term f.stop < 16 ^ 2 → T (fits binary64 f.error) → ((j : ℕ) → T (fits binary64 (at f.coeffs j))) → Says (fit_lines f) f
unfolding fit_lines report_line
lines_read_back f r k u x g =
    let stop = digits 2 (stop_code f.stop) in
    let refits = digits 4 f.refits in
    let kept = digits 16 f.kept in
    let term = digits 2 (stop_term f.stop) in
    let error = digits 16 (bits f.error) in
    let rest = (newline ∷ []) ++ coefficient_lines f.coeffs in
    let lines = error ++ rest in
    record {
      stop = number_in _ [] (refits ++ (kept ++ (term ++ lines))) 0 2 _ (simp append_assoc) refl (code_lt f.stop);
      refits = number_in _ stop (kept ++ (term ++ lines)) 2 4 _ (simp append_assoc) (length_digits 2 _) r;
      kept = number_in _ (stop ++ refits) (term ++ lines) 6 16 _ (simp append_assoc) (simp (length-append, length_digits)) k;
      term = number_in _ (stop ++ (refits ++ kept)) lines 22 2 _ (simp append_assoc) (simp (length-append, length_digits)) u;
      error = float_in _ (stop ++ (refits ++ (kept ++ term))) rest 24 _ (simp append_assoc) (simp (length-append, length_digits)) x;
      coefficient = λ j h. coefficient_back (report_line (report_of f)) f.coeffs j h (g j) (length_report (report_of f));
    }

-- every coefficient of an input's fit is a binary64, since those of its target are
coefficients_in_format : (s : List ℕ) (task : Task) (j : ℕ) → T (fits binary64 (at (fit_asked s task).coeffs j))
unfolding fit_asked
coefficients_in_format s task = coefficients_fit task _ (at (target_asked s task)) (target_fits s task)

-- and so is its error
error_in_format : (s : List ℕ) (task : Task) → T (fits binary64 (fit_asked s task).error)
unfolding fit_asked
error_in_format s task = error_fits task _ _

-- the answer to an accepted input says its fit: the stop, the refits, the kept word, the refused term, the squared error, and each coefficient, a NaN as a NaN
pub answer_read_back : (s : List ℕ) (task : Task) → head_of s ≡ Some task → checked s task ≡ Ok tt → Says (answer_of s) (fit_asked s task)
unfolding answer_lines
answer_read_back s task e c =
    let ok = was_accepted s task c in
    rw (answer_good s task (Ok tt) e c) (lines_read_back (fit_asked s task) (refits_within s task ok) (kept_within s task ok) (term_within s task ok) (error_in_format s task) (coefficients_in_format s task))
