-- How long the lines of the causes are, and where each stands. Assumes nothing.
use Rattle.std.specs.Prelude.{◌≡◌, List, [], ◌++◌, length}
use Rattle.std.proofs.Math.Path.{refl}
use Rattle.std.proofs.Common.{ap, ◌∙◌, append_assoc, append-nil, eq-or-lt_of_le, le_of_suc-le-suc, not-suc-le-zero, arith}
use Rattle.std.proofs.Math.Logic.{⊎_elim}
use Prim.Native.Nat.{ℕ, zero, suc, ◌*◌, ◌<◌}
use Rattle.std.proofs.Math.ListN.{length-append}
use Rattle.hexdigits.specs.ReadBack.{length_digits}
use Rattle.why.specs.declared.Cause.{Cause}
use Rattle.causes.specs.Lines.{cause_line, cause_bytes, cause_lines}

pub length_cause : (c : Cause) → length (cause_line c) ≡ cause_bytes
unfolding cause_line
length_cause c = simp (length-append, length_digits)

-- a text that has a part behind another
pub record Within (text before part : List ℕ) : Type 0 where
  pub after : List ℕ
  pub is : text ≡ before ++ (part ++ after)

module _ (why : ℕ → Cause) where
  pub length_causes : (n : ℕ) → length (cause_lines why n) ≡ cause_bytes * n
  unfolding cause_lines
  length_causes zero = refl
  length_causes (suc n) = omega (arith, length-append (cause_lines why n) (cause_line (why n)), length_cause (why n), length_causes n)

  -- the line of a term stands behind those of the terms before it
  pub line_at : (j n : ℕ) → j < n → Within (cause_lines why n) (cause_lines why j) (cause_line (why j))
  unfolding cause_lines
  line_at j zero h = absurd (not-suc-le-zero h)
  line_at j (suc n) h = ⊎_elim last (λ l. earlier (line_at j n l)) (eq-or-lt_of_le (le_of_suc-le-suc h))
    where
      last : j ≡ n → Within (cause_lines why (suc n)) (cause_lines why j) (cause_line (why j))
      last e = record { after = []; is = rw (e, append-nil) }

      earlier : Within (cause_lines why n) (cause_lines why j) (cause_line (why j)) → Within (cause_lines why (suc n)) (cause_lines why j) (cause_line (why j))
      earlier found = record { after = found.after ++ cause_line (why n); is = ap (λ (t : List ℕ). t ++ cause_line (why n)) found.is ∙ simp append_assoc }
