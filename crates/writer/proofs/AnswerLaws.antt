-- The lines of an answer, piece after piece. Assumes nothing.
use mathlib.Core.Path.{◌≡◌, refl, ◌∙◌}
use mathlib.Core.List.{List, [], ◌∷◌, ◌++◌, append-nil}
use Prim.Native.Nat.{ℕ, ◌+◌, ◌*◌, ◌≤◌, ◌<◌}
use native.Mathlib.Numerals.{add-one}
use native.Mathlib.Omega.{arith}
use lib.ListN.{length, take, get_or, length-append}
use lib.Seq.{take-suc}
use lib.Ieee.{Float, nan}
use Rattle.hexdigits.specs.Hex.{bits, digits, line}
use Rattle.hexdigits.specs.Put.{Written, put_none, written_then}
use Rattle.hexdigits.specs.ReadBack.{length_digits}
use Rattle.refusal.specs.Answers.{number}
use Rattle.refusal.specs.declared.Refusal.{Refusal}
use Rattle.rule.specs.Codes.{stop_code, stop_term}
use Rattle.rule.specs.declared.Report.{Report}
use Rattle.writer.specs.Lines.{lines_append}
use Rattle.writer.specs.Answer.{refusal_line, report_line, coefficient_lines, coefficient_bytes}

-- the pieces of a refusal's line
pub refusal_written : {n m r : ℕ} {was mid out : List ℕ} (w : Refusal) → n ≡ number w → Written 0 (digits 2 0xff) was mid m → Written m (line 2 n) mid out r → Written 0 (refusal_line w) was out r
unfolding refusal_line
refusal_written w e f g = written_then (omega arith) f (rw e at g)

-- the pieces of a report's line
pub report_written : {code count term error m k l n r : ℕ} {was mid most last end out : List ℕ} (report : Report)
    → code ≡ stop_code report.stop → count ≡ report.refits → term ≡ stop_term report.stop → error ≡ bits report.error
    → Written 0 (digits 2 code) was mid m → Written m (digits 4 count) mid most k → Written k (digits 16 report.kept.0) most last l → Written l (digits 2 term) last end n → Written n (line 16 error) end out r
    → Written 0 (report_line report) was out r
unfolding report_line
report_written report e e' e'' e''' f g h i j =
    written_then (omega arith) (written_then (omega arith) (written_then (omega arith) (written_then (omega arith) (rw e at f) (rw e' at g)) h) (rw e'' at i)) (rw e''' at j)

-- the lines of one coefficient
one_line : (x : Float) → coefficient_lines (x ∷ []) ≡ line 16 (bits x)
unfolding coefficient_lines
one_line x = append-nil (line 16 (bits x))

-- a line of n digits ends n + 1 places on
pub after_line : {a next : ℕ} {was out : List ℕ} (n w : ℕ) → Written a (line n w) was out next → next ≡ a + n + 1
after_line n w f = omega (arith, f.place, length-append (digits n w) (10 ∷ []), length_digits n w)

module _ (xs : List Float) (a : ℕ) (was : List ℕ) where
  -- the lines of the first j coefficients are written
  pub record Lines (j : ℕ) (out : List ℕ) (next : ℕ) : Type 0 where
    pub some : j ≤ length xs
    pub long : length out ≡ length was
    pub place : next ≡ a + coefficient_bytes * j
    pub lines : Written a (coefficient_lines (take j xs)) was out next

  pub lines_none : Lines 0 was a
  unfolding coefficient_lines
  lines_none = record {
    some = omega arith;
    long = refl;
    place = omega arith;
    lines = record { place = omega arith; bytes = put_none a was };
  }

  pub lines_next : {j next next' w : ℕ} {out out' : List ℕ} → a ≤ length was → j < length xs → length out' ≡ length out → w ≡ bits (get_or xs j nan)
      → Lines j out next → Written next (line 16 w) out out' next' → Lines (j + 1) out' next'
  lines_next {j} {next} {next'} {w} h l len e f g =
      let same : coefficient_lines (take (j + 1) xs) ≡ coefficient_lines (take j xs) ++ line 16 w = rw (add-one, take-suc xs j nan l, e, lines_append, one_line) in
      record {
        some = omega arith;
        long = len ∙ f.long;
        place = omega (arith, f.place, after_line 16 w g);
        lines = rw same (written_then h f.lines g);
      }
