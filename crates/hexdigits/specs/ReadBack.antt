-- Reading back what was written is the identity, once over the count of digits, wherever they stand. Assumes nothing.
use Rattle.std.specs.Prelude.{◌≡◌, refl, List, [], ◌∷◌, ◌++◌, ℕ, zero, suc, ◌+◌, ◌*◌, ◌/◌, ◌%◌, ◌^◌, ◌≤◌, ◌<◌, T, length, get_or, Float}
use Rattle.std.proofs.Common.{sym, ap, ap₂, ◌∙◌, zero-add, pow-suc, arith, lt-ltb, le-ltb, le-leb, lit<, length-append, get_or-append-add}
use Rattle.std.proofs.Math.Decide.{dec_lt}
use Rattle.std.proofs.lemmas.Bool.{lt-leb}
use Rattle.std.proofs.Math.ListN.{get_or-append}
use Rattle.std.proofs.lemmas.List.{get_or_at}
use Rattle.std.specs.Float.{nan, inf, fin, binary64}
use Rattle.std.specs.Float.Ieee.{fits, is_nan, of_bits}
use Rattle.std.specs.Float.Ieee.Bits.{of_bits-to_bits, to_bits-lt}
use Rattle.hexdigits.specs.Put.{Written}
use Rattle.hexdigits.specs.Hex.{value, glyph, number_at, digits, bits, float}

pub length_digits : (n w : ℕ) → length (digits n w) ≡ n
unfolding digits
length_digits zero w = refl
length_digits (suc n) w = let h = length_digits n (w / 16) in length-append (digits n (w / 16)) (glyph (w % 16) ∷ []) ∙ omega arith

-- the place after n digits
pub after_digits : {a next : ℕ} {was out : List ℕ} (n w : ℕ) → Written a (digits n w) was out next → next ≡ a + n
after_digits {a} n w f = omega (arith, f.place, length_digits n w)

value_glyph : (d : ℕ) → d < 16 → value (glyph d) ≡ d
unfolding value glyph
value_glyph d h = go (dec_lt d 10)
  where
    go : Dec (d < 10) → value (glyph d) ≡ d
    go (yes l) =
        let b : 48 ≤ 48 + d = omega arith in
        let t : 48 + d ≤ 57 = omega arith in
        simp (lt-ltb d 10 l, le-ltb (48 + d) 48 b, le-leb (48 + d) 57 t) (omega arith)
    go (no l) =
        let g : 10 ≤ d = omega (arith, l) in
        let b : 48 ≤ 87 + d = omega arith in
        let t : 57 < 87 + d = omega arith in
        let u : 97 ≤ 87 + d = omega arith in
        let v : 87 + d ≤ 102 = omega arith in
        simp (le-ltb d 10 g, le-ltb (87 + d) 48 b, lt-leb (87 + d) 57 t, le-ltb (87 + d) 97 u, le-leb (87 + d) 102 v) (omega arith)

-- digits that stand within a longer text write the same number
number_within : (p s q : List ℕ) (n : ℕ) → n ≤ length s → number_at (p ++ (s ++ q)) (length p) n ≡ number_at s 0 n
unfolding number_at
number_within p s q zero h = refl
number_within p s q (suc n) h =
    let byte : get_or (p ++ (s ++ q)) (length p + n) 0 ≡ get_or s (0 + n) 0
    = get_or-append-add p (s ++ q) n 0 ∙ get_or-append s q 0 n h ∙ ap (λ (k : ℕ). get_or s k 0) (sym (zero-add n)) in
    ap₂ (λ (x y : ℕ). x * 16 + value y) (number_within p s q n (omega arith)) byte

number_digits : (n w : ℕ) → w < 16 ^ n → number_at (digits n w) 0 n ≡ w
unfolding number_at digits
number_digits zero w h = omega arith
number_digits (suc n) w h =
    let high = digits n (w / 16) in
    let front : number_at (high ++ (glyph (w % 16) ∷ [])) 0 n ≡ w / 16
    = number_within [] high (glyph (w % 16) ∷ []) n (omega (arith, length_digits n (w / 16))) ∙ number_digits n (w / 16) (omega (arith, pow-suc 16 n)) in
    let last : value (get_or (high ++ (glyph (w % 16) ∷ [])) (0 + n) 0) ≡ w % 16
    = ap value (get_or_at high (glyph (w % 16)) [] 0 (0 + n) (length_digits n (w / 16) ∙ sym (zero-add n))) ∙ value_glyph (w % 16) (omega arith) in
    omega (arith, front, last)

-- the number of the n digits of w is w, whatever stands before and after them
pub read_back : (n w : ℕ) (before after : List ℕ) → w < 16 ^ n → number_at (before ++ (digits n w ++ after)) (length before) n ≡ w
read_back n w before after h = number_within before (digits n w) after n (omega (arith, length_digits n w)) ∙ number_digits n w h

-- so is that of a text in which they stand from a on
pub number_in : (s before after : List ℕ) (a n w : ℕ) → s ≡ before ++ (digits n w ++ after) → length before ≡ a → w < 16 ^ n → number_at s a n ≡ w
number_in s before after a n w e len h = rw (e, ← len) (read_back n w before after h)

-- the bits of an f64 give it back: of one that is no NaN they are its own, and those of a NaN are a NaN's
bits_back : (x : Float) → T (fits binary64 x) → of_bits binary64 (bits x) ≡ x
unfolding bits is_nan of_bits
bits_back nan f = refl
bits_back (inf s) f = of_bits-to_bits binary64 (inf s) f
bits_back (fin s m e) f = of_bits-to_bits binary64 (fin s m e) f

bits_lt : (x : Float) → T (fits binary64 x) → bits x < 16 ^ 16
unfolding bits is_nan
bits_lt nan f = lit< tt
bits_lt (inf s) f = to_bits-lt binary64 (inf s) f
bits_lt (fin s m e) f = to_bits-lt binary64 (fin s m e) f

-- an f64 that was written is read back as itself, a NaN as a NaN
pub float_back : (x : Float) (before after : List ℕ) → T (fits binary64 x) → float (before ++ (digits 16 (bits x) ++ after)) (length before) ≡ x
float_back x before after f = ap (of_bits binary64) (read_back 16 (bits x) before after (bits_lt x f)) ∙ bits_back x f

-- so is one that stands in a text from a on
pub float_in : (s before after : List ℕ) (a : ℕ) (x : Float) → s ≡ before ++ (digits 16 (bits x) ++ after) → length before ≡ a → T (fits binary64 x) → float s a ≡ x
float_in s before after a x e len f = rw (e, ← len) (float_back x before after f)
