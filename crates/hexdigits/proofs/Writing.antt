-- Digits written from the last to the first. Assumes nothing.
use Rattle.std.proofs.Common.{◌≡◌, refl, ap, ◌∙◌, List, [], ◌∷◌, ◌++◌, ℕ, ◌+◌, ◌-◌, ◌/◌, ◌%◌, ◌≤◌, ◌<◌, length, set, append-nil, add-one, length-set, arith}
use Rattle.std.proofs.Math.Seq.{append_snoc}
use Rattle.hexdigits.specs.Hex.{glyph, digits}
use Rattle.hexdigits.specs.Put.{put, Written, put_none, put_before}
use Rattle.hexdigits.specs.ReadBack.{length_digits}

-- the digits of w from place i on are written where they belong, and those of `rest` are left
pub record Writing (w n a : ℕ) (was : List ℕ) (i rest : ℕ) (out : List ℕ) : Type 0 where
  pub tail : List ℕ
  pub low : a ≤ i
  pub high : i ≤ a + n
  pub long : length out ≡ length was
  pub left : digits (i - a) rest ++ tail ≡ digits n w
  pub bytes : out ≡ put i tail was

digits_none : (rest : ℕ) → digits 0 rest ≡ []
unfolding digits
digits_none rest = refl

digits_more : (j rest : ℕ) (tail : List ℕ) → digits (j + 1) rest ++ tail ≡ digits j (rest / 16) ++ (glyph (rest % 16) ∷ tail)
unfolding digits
digits_more j rest tail = rw add-one (append_snoc (digits j (rest / 16)) (glyph (rest % 16)) tail)

module _ (w n a : ℕ) (was : List ℕ) where
  pub writing_none : Writing w n a was (a + n) w was
  writing_none =
      let e : a + n - a ≡ n = omega arith in
      record { tail = []; low = omega arith; high = omega arith; long = refl; left = rw e (append-nil (digits n w)); bytes = put_none (a + n) was }

  -- the digit just before those that are written
  pub writing_more : {i rest g : ℕ} {out : List ℕ} → a < i → a + n ≤ length was → g ≡ glyph (rest % 16) → Writing w n a was i rest out
      → Writing w n a was (i - 1) (rest / 16) (set out (i - 1) g)
  writing_more {i} {rest} {g} {out} h l e f =
      let j = i - 1 in
      let now : i - a ≡ j - a + 1 = omega arith in
      let here : j + 1 ≡ i = omega arith in
      let before : out ≡ put (j + 1) f.tail was = rw here f.bytes in
      record {
        tail = g ∷ f.tail;
        low = omega arith;
        high = omega (arith, f.high);
        long = length-set out j g ∙ f.long;
        left = rw (e, ← digits_more (j - a) rest f.tail, ← now) f.left;
        bytes = ap (λ (l : List ℕ). set l j g) before ∙ put_before j g f.tail was (omega (arith, f.high));
      }

  pub writing_end : {i rest : ℕ} {out : List ℕ} → i ≤ a → Writing w n a was i rest out → Written a (digits n w) was out (a + n)
  writing_end {i} {rest} h f =
      let none : i - a ≡ 0 = omega arith in
      let here : i ≡ a = omega (arith, f.low) in
      let all : f.tail ≡ digits n w = rw (none, digits_none) at f.left in
      record { place = omega (arith, length_digits n w); bytes = f.bytes ∙ rw (here, all) }
