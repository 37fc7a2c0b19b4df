-- What the code's bit operations make of a word: `|` and `^` with a term's bit, the bit itself, the mask below it. Assumes nothing.
use mathlib.Core.Path.{◌≡◌, refl, sym, ap, ap₂, ◌∙◌}
use mathlib.Core.Bool.{Bool, true, false, not, xor, ◌&&◌, ◌||◌}
use Prim.Native.Nat.{ℕ, ◌+◌, ◌-◌, ◌*◌, ◌/◌, ◌%◌, ◌^◌, ◌≤◌, ◌<◌, max}
use native.Mathlib.Nat.{mod-lt, one-mul, zero-max}
use native.Mathlib.Omega.{arith}
use lib.Arith.{digits_mod}
use lib.Dec.{eqb, lit<}
use lib.Pow.{pow_pos, shl_exact}
use lib.Bits.{bit_or, bit_xor, bit_and, differ, or_step, xor_step, or_shr, xor_shr, or_lt, xor_lt, and_mask}
use lib.Count.{ones}
use Rattle.support.specs.Word.{has, bit, place, alone, with_term, without_term}
use Rattle.support.specs.WordLaws.{digit_is, word_lt, word_ext}
use Rattle.support.specs.SupportLaws.{has_alone, has_with, has_without}

-- ---- the terms of an `|` and of an `^`

module _ (op low : ℕ → ℕ → ℕ) (test : Bool → Bool → Bool) (bits : (x y : Bool) → low (bit x) (bit y) ≡ bit (test x y))
    (step : (a b : ℕ) → op a b ≡ op (a / 2) (b / 2) * 2 + low (a % 2) (b % 2))
    (shr : (a b k : ℕ) → op a b / 2 ^ k ≡ op (a / 2 ^ k) (b / 2 ^ k)) where
  -- the lowest digit of the result is the test of the two lowest digits
  low_digit : (a b : ℕ) → eqb (op a b % 2) 1 ≡ test (eqb (a % 2) 1) (eqb (b % 2) 1)
  low_digit a b =
      ap (λ (x : ℕ). eqb (x % 2) 1) (step a b ∙ ap (λ (x : ℕ). op (a / 2) (b / 2) * 2 + x) (ap₂ low (own a) (own b) ∙ bits _ _))
      ∙ last (op (a / 2) (b / 2)) (test (eqb (a % 2) 1) (eqb (b % 2) 1))
    where
      own : (x : ℕ) → x % 2 ≡ bit (eqb (x % 2) 1)
      own x = sym (digit_is (x % 2) (mod-lt x (lit< tt)))

      last : (x : ℕ) (b : Bool) → eqb ((x * 2 + bit b) % 2) 1 ≡ b
      last x true = ap (λ (y : ℕ). eqb y 1) (digits_mod x (lit< tt))
      last x false = ap (λ (y : ℕ). eqb y 1) (digits_mod x (lit< tt))

  has_op : (a b k : ℕ) → has (op a b) k ≡ test (has a k) (has b k)
  unfolding has
  has_op a b k = ap (λ (x : ℕ). eqb (x % 2) 1) (shr a b k) ∙ low_digit (a / 2 ^ k) (b / 2 ^ k)

has_or : (a b k : ℕ) → has (bit_or a b) k ≡ (has a k || has b k)
has_or = has_op bit_or max ◌||◌ bits or_step or_shr
  where
    bits : (x y : Bool) → max (bit x) (bit y) ≡ bit (x || y)
    bits true true = refl
    bits true false = refl
    bits false y = zero-max (bit y)

has_xor : (a b k : ℕ) → has (bit_xor a b) k ≡ xor (has a k) (has b k)
unfolding xor
has_xor = has_op bit_xor differ xor bits xor_step xor_shr
  where
    bits : (x y : Bool) → differ (bit x) (bit y) ≡ bit (xor x y)
    bits true true = refl
    bits true false = refl
    bits false true = refl
    bits false false = refl

-- ---- `self.0 | m` and `(self.0 | m) ^ m`, with the term's bit m

alone_lt : (j : ℕ) → alone j < 2 ^ 64
unfolding alone
alone_lt j = word_lt _ 64

pub with_is : (w j : ℕ) → w < 2 ^ 64 → bit_or w (alone j) ≡ with_term w j
unfolding with_term
with_is w j s = word_ext _ _ 64 (or_lt 64 w (alone j) s (alone_lt j)) (word_lt _ 64) (λ k h.
    has_or w (alone j) k ∙ ap (λ (b : Bool). has w k || b) (has_alone j k h) ∙ sym (has_with w j k h))

pub without_is : (w j : ℕ) → w < 2 ^ 64 → bit_xor (bit_or w (alone j)) (alone j) ≡ without_term w j
unfolding without_term xor
without_is w j s =
    let m = alone j in
    let fits : bit_or w m < 2 ^ 64 = or_lt 64 w m s (alone_lt j) in
    word_ext _ _ 64 (xor_lt 64 (bit_or w m) m fits (alone_lt j)) (word_lt _ 64) (λ k h.
    has_xor (bit_or w m) m k ∙ ap (λ (b : Bool). xor b (has m k)) (has_or w m k)
    ∙ ap (λ (b : Bool). xor (has w k || b) b) (has_alone j k h) ∙ cleared (has w k) (eqb k j) ∙ sym (has_without w j k h))
  where
    cleared : (x y : Bool) → xor (x || y) y ≡ (x && not y)
    cleared true true = refl
    cleared true false = refl
    cleared false true = refl
    cleared false false = refl

-- ---- `1u64 << j`, and the mask below it

pub shl_is : (j : ℕ) → j < 64 → (1 * 2 ^ j) % 2 ^ 64 ≡ 2 ^ j
shl_is j h = shl_exact 1 j 64 (lit< tt) (omega arith) ∙ one-mul (2 ^ j)

pub shl_pos : (j : ℕ) → j < 64 → 1 ≤ (1 * 2 ^ j) % 2 ^ 64
shl_pos j h = omega (arith, shl_is j h, pow_pos j)

pub place_mask : (w j : ℕ) → j < 64 → ones (bit_and w ((1 * 2 ^ j) % 2 ^ 64 - 1)) ≡ place w j
unfolding place
place_mask w j h = ap (λ (x : ℕ). ones (bit_and w (x - 1))) (shl_is j h) ∙ ap ones (and_mask w j)
