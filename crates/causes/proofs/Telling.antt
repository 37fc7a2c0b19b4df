-- The lines of the causes, piece after piece and term after term. Assumes nothing.
use mathlib.Core.Path.{◌≡◌, refl, ◌∙◌}
use mathlib.Core.List.{List}
use Prim.Native.Nat.{ℕ, ◌+◌, ◌*◌, ◌≤◌}
use native.Mathlib.Numerals.{add-one}
use native.Mathlib.Omega.{arith}
use lib.ListN.{length}
use Rattle.hexdigits.specs.Hex.{digits, bits, line}
use Rattle.hexdigits.specs.Put.{Written, put_none, written_then}
use Rattle.why.specs.Codes.{cause_code, cause_refit, cause_value}
use Rattle.why.specs.declared.Cause.{Cause}
use Rattle.causes.specs.Lines.{cause_line, cause_bytes, cause_lines}
use Rattle.causes.specs.LineLaws.{length_cause}

-- the pieces of a line
pub cause_written : {code number w a m k r : ℕ} {was mid most out : List ℕ} (c : Cause) → a ≤ length was
    → code ≡ cause_code c → number ≡ cause_refit c → w ≡ bits (cause_value c)
    → Written a (digits 2 code) was mid m → Written m (digits 4 number) mid most k → Written k (line 16 w) most out r
    → Written a (cause_line c) was out r
unfolding cause_line
cause_written c h e e' e'' f g i = written_then h (written_then h (rw e at f) (rw e' at g)) (rw e'' at i)

module _ (why : ℕ → Cause) (was : List ℕ) where
  -- the lines of the first j terms are written
  pub record Told (j : ℕ) (out : List ℕ) (next : ℕ) : Type 0 where
    pub long : length out ≡ length was
    pub place : next ≡ cause_bytes * j
    pub lines : Written 0 (cause_lines why j) was out next

  pub told_none : Told 0 was 0
  unfolding cause_lines
  told_none = record { long = refl; place = omega arith; lines = record { place = omega arith; bytes = put_none 0 was } }

  pub told_next : {j next next' : ℕ} {c : Cause} {out out' : List ℕ} → c ≡ why j → length out' ≡ length out
      → Told j out next → Written next (cause_line c) out out' next' → Told (j + 1) out' next'
  unfolding cause_lines
  told_next {c = c} e len f g =
      record {
        long = len ∙ f.long;
        place = omega (arith, f.place, g.place, length_cause c);
        lines = rw (add-one, ← e) (written_then (omega arith) f.lines g);
      }

  pub told_end : {j n next : ℕ} {out : List ℕ} → j ≤ n → n ≤ j → Told j out next → Written 0 (cause_lines why n) was out next
  told_end {j} {n} h k f = let e : j ≡ n = omega arith in rw e at f.lines
