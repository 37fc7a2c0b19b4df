-- Text written into a slice of bytes, piece after piece. Assumes nothing.
use Rattle.std.specs.Prelude.{◌≡◌, refl, List, [], ◌∷◌, ◌++◌, ℕ, suc, ◌+◌, ◌≤◌, ◌<◌, length, take, drop, set}
use Rattle.std.proofs.Common.{sym, ap, ◌∙◌, append_assoc, add-zero, zero-add, add_assoc, add-one, arith, length-append, take-append-drop, length-take-le, take-suc, take_at, drop-drop}
use Rattle.std.proofs.lemmas.List.{set_at}
use Rattle.std.proofs.Math.Seq.{append_snoc, drop-append-add}

-- s with the bytes t from a on
unfoldable pub put : ℕ → List ℕ → List ℕ → List ℕ
put a t s = take a s ++ (t ++ drop (a + length t) s)

-- what a writer leaves: `out` is `was` with the bytes t from a on, and `next` is the place after them
pub record Written (a : ℕ) (t was out : List ℕ) (next : ℕ) : Type 0 where
  pub place : next ≡ a + length t
  pub bytes : out ≡ put a t was

pub put_none : (a : ℕ) (s : List ℕ) → s ≡ put a [] s
unfolding put
put_none a s = sym (rw add-zero (take-append-drop a s))

-- from the first byte on
pub put_first : (t s : List ℕ) → put 0 t s ≡ t ++ drop (length t) s
unfolding put
put_first t s = rw zero-add

-- one byte more, just before
pub put_before : (a : ℕ) (g : ℕ) (t s : List ℕ) → a < length s → set (put (a + 1) t s) a g ≡ put a (g ∷ t) s
unfolding put
put_before a g t s h =
    let e : a + 1 + length t ≡ a + suc (length t) = omega arith in
    let len : length (take a s) ≡ a = length-take-le a s (omega arith) in
    rw (e, add-one, take-suc s a 0, append_snoc) (set_at (take a s) _ _ g a len)

put_one : (a g : ℕ) (s : List ℕ) → a < length s → set s a g ≡ put a (g ∷ []) s
put_one a g s h = ap (λ (l : List ℕ). set l a g) (put_none (a + 1) s) ∙ put_before a g [] s h

-- a writer of one byte
pub written_one : (a g : ℕ) (s : List ℕ) → a < length s → Written a (g ∷ []) s (set s a g) (a + 1)
written_one a g s h = record { place = refl; bytes = put_one a g s h }

-- a piece, and the next
put_put : (a : ℕ) (t u s : List ℕ) → a ≤ length s → put (a + length t) u (put a t s) ≡ put a (t ++ u) s
unfolding put
put_put a t u s h =
    let len : length (take a s ++ t) ≡ a + length t = simp (length-append, length-take-le a s h) in
    let split = sym (append_assoc (take a s) t (drop (a + length t) s)) in
    let front : take (a + length t) (take a s ++ (t ++ drop (a + length t) s)) ≡ take a s ++ t = rw split (take_at (take a s ++ t) _ _ len) in
    let back : drop (a + length t + length u) (take a s ++ (t ++ drop (a + length t) s)) ≡ drop (a + length (t ++ u)) s
    = rw (split, ← len, drop-append-add, len, drop-drop, add_assoc, ← length-append t u) in
    rw (front, back) (simp append_assoc)

-- two writers, one after the other
pub written_then : {a m next : ℕ} {t u was mid out : List ℕ} → a ≤ length was → Written a t was mid m → Written m u mid out next → Written a (t ++ u) was out next
written_then {a} {m} {next} {t} {u} {was} h f g =
    record {
      place = omega (arith, f.place, g.place, length-append t u);
      bytes = g.bytes ∙ rw (f.place, f.bytes) (put_put a t u was h);
    }
