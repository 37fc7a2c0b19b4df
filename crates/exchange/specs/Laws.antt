-- The answer by its cases, and what its contract comes to, for every program. Assumes nothing.
use Rattle.std.specs.Prelude.{None, Some, Ok, Err, Option, ◌≡◌, not, List, ℕ, ◌≤◌, length, drop}
use Rattle.std.proofs.Common.{refl, ap, ◌∙◌, arith, length-append}
use Rattle.std.proofs.lemmas.Bool.{not-false}
use Rattle.refusal.specs.Ladder.{not_refused, both_done}
use Rattle.refusal.specs.Answers.{Answer}
use Rattle.refusal.specs.declared.Refusal.{Refusal}
use Rattle.refusal.specs.declared.Refusal.TheVariants.{Malformed}
use Rattle.hexdigits.specs.Put.{Written, put_first}
use Rattle.rule.specs.Sizes.{Limited}
use Rattle.rule.specs.declared.Task.{Task}
use Rattle.reader.specs.Header.{head_of}
use Rattle.writer.specs.Answer.{refusal_line}
use Rattle.exchange.specs.Limits.{most_cols, most_rows}
use Rattle.exchange.specs.Exchange.{frames_fine, then_rows, task_if, passed, Accepted, answer_lines, answer_to, answer_by, Exchanged}

module _ (before : Task → Answer) (lines : List ℕ → Task → List ℕ) where
  -- a malformed header
  pub by_wrong : (s : List ℕ) → head_of s ≡ None → answer_by before lines s ≡ refusal_line Malformed
  unfolding answer_by answer_to
  by_wrong s e = rw e

  -- a good one
  pub by_good : (s : List ℕ) (task : Task) (a : Answer) → head_of s ≡ Some task → then_rows (before task) s task ≡ a → answer_by before lines s ≡ answer_lines lines s task a
  unfolding answer_by answer_to
  by_good s task a e f = rw (e, f)

  -- so by what a check of the input answers: the task of an accepted one, or a refusal
  lines_passed : (s : List ℕ) (t task : Task) (a : Answer) → task_if t a ≡ Ok task → answer_lines lines s t a ≡ lines s task
  unfolding answer_lines
  lines_passed s t task (Ok done) e = let same : t ≡ task = cc in rw same
  lines_passed s t task (Err w) e = cc

  lines_refused : (s : List ℕ) (t : Task) (w : Refusal) (a : Answer) → task_if t a ≡ Err w → answer_lines lines s t a ≡ refusal_line w
  unfolding answer_lines
  lines_refused s t w (Ok done) e = cc
  lines_refused s t w (Err v) e = let same : v ≡ w = cc in rw same

  by_passed_of : (s : List ℕ) (task : Task) (d : Option Task) → passed (λ t. then_rows (before t) s t) d ≡ Ok task → answer_to before lines s d ≡ lines s task
  unfolding answer_to
  by_passed_of s task None e = cc
  by_passed_of s task (Some t) e = lines_passed s t task (then_rows (before t) s t) e

  by_refused_of : (s : List ℕ) (w : Refusal) (d : Option Task) → passed (λ t. then_rows (before t) s t) d ≡ Err w → answer_to before lines s d ≡ refusal_line w
  unfolding answer_to
  by_refused_of s w None e = let same : Malformed ≡ w = cc in rw same
  by_refused_of s w (Some t) e = lines_refused s t w (then_rows (before t) s t) e

  pub by_passed : (s : List ℕ) (task : Task) → passed (λ t. then_rows (before t) s t) (head_of s) ≡ Ok task → answer_by before lines s ≡ lines s task
  unfolding answer_by
  by_passed s task e = by_passed_of s task (head_of s) e

  pub by_refused : (s : List ℕ) (w : Refusal) → passed (λ t. then_rows (before t) s t) (head_of s) ≡ Err w → answer_by before lines s ≡ refusal_line w
  unfolding answer_by
  by_refused s w e = by_refused_of s w (head_of s) e

-- a check that passes a task refuses nothing of it
pub passed_ok : (check : Task → Answer) (d : Option Task) (task : Task) → passed check d ≡ Ok task → check task ≡ Ok tt
passed_ok check None task e = cc
passed_ok check (Some t) task e = go (check t) refl e
  where
    go : (a : Answer) → check t ≡ a → task_if t a ≡ Ok task → check task ≡ Ok tt
    go (Ok done) f g = let same : t ≡ task = cc in rw same at f
    go (Err w) f g = cc

-- an input that nothing refuses is accepted, where what passes first is within the limits
pub then_accepted : {first : Answer} (s : List ℕ) (task : Task) → (first ≡ Ok tt → Limited most_cols most_rows task) → then_rows first s task ≡ Ok tt → Accepted s task
unfolding then_rows
then_accepted {first} s task passed e =
    let both = both_done first _ e in
    let rows = not_refused (not (frames_fine s task)) Malformed (Ok tt) both.1 in
    record { limited = passed both.0; formed = not-false _ rows.0 }

-- an answer that is written from the first byte on
pub exchanged : {answer : List ℕ → List ℕ} {input t was out : List ℕ} {r : ℕ} → answer input ≡ t → Written 0 t was out r → Exchanged answer input was out r
exchanged {t = t} {was = was} e f = record { long = rw e (omega (arith, f.place)); bytes = rw e (f.bytes ∙ put_first t was) }

-- the contract determines the answer's length and every byte
pub exchanged_unique : (answer : List ℕ → List ℕ) (input was out out' : List ℕ) (r r' : ℕ)
    → Exchanged answer input was out r → Exchanged answer input was out' r' → (r ≡ r') × (out ≡ out')
exchanged_unique answer input was out out' r r' p q = (cc, cc)

-- the answer has room where it was written
pub exchanged_fits : (answer : List ℕ → List ℕ) (input was out : List ℕ) (r : ℕ) → Exchanged answer input was out r → r ≤ length out
exchanged_fits answer input was out r p =
    let t = answer input in
    omega (arith, p.long, ap length p.bytes ∙ length-append t (drop (length t) was))
