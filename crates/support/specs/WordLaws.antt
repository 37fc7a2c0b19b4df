-- Laws of words as sets of terms: the bits of a word made from a test, and when two words are one. Assumes nothing.
use Rattle.std.specs.Prelude.{◌≡◌, refl, ◌⊎◌, Bool, true, false, ℕ, zero, suc, ◌+◌, ◌-◌, ◌*◌, ◌/◌, ◌%◌, ◌^◌, ◌≤◌, ◌<◌, T, eqb}
use Rattle.std.proofs.Common.{sym, ap, ap₂, ◌∙◌, subst, inl, inr, eq-or-lt_of_le, le_of_suc-le-suc, not-suc-le-zero, mul_assoc, pow-suc, lt_of_lt_of_le, mod-lt, mod-eq_of_lt, one-add, arith, lit<, pow_pos, pow-add, pow_mono}
use Rattle.std.proofs.Math.Nat.{mul-add-div_right, mul-add-mod_self_right, div-eq_of_lt, mod-one}
use Rattle.std.proofs.Math.Decide.{dec_lt, le_ind}
use Rattle.std.proofs.Math.Pow.{high}
use Rattle.std.proofs.lemmas.Nat.{mod-pow-add}
use Rattle.support.specs.Word.{has, bit, word}

-- ---- a test that passes, as a fact and as an equation

pub passed : {b : Bool} → b ≡ true → T b
passed e = subst T (sym e) tt

pub passes : (b : Bool) → T b → b ≡ true
passes true t = refl
passes false t = absurd t

-- ---- the bits of a word

pub word_none : (f : ℕ → Bool) → word f 0 ≡ 0
unfolding word
word_none f = refl

word_next : (b : Bool) (p w : ℕ) → w < p → bit b * p + w < p * 2
word_next true p w h = omega arith
word_next false p w h = omega arith

pub word_lt : (f : ℕ → Bool) (n : ℕ) → word f n < 2 ^ n
unfolding word
word_lt f zero = omega arith
word_lt f (suc n) = rw pow-suc (word_next (f n) (2 ^ n) (word f n) (word_lt f n))

bit_is : (b : Bool) → eqb (bit b % 2) 1 ≡ b
bit_is true = refl
bit_is false = refl

-- a binary digit above place j does not reach it
skip : (c d j w : ℕ) → (c * 2 ^ (suc d + j) + w) / 2 ^ j % 2 ≡ w / 2 ^ j % 2
skip c d j w =
    ap (λ (x : ℕ). (c * x + w) / 2 ^ j % 2) (pow-add 2 (suc d) j)
    ∙ ap (λ (x : ℕ). (x + w) / 2 ^ j % 2) (sym (mul_assoc c (2 ^ suc d) (2 ^ j)))
    ∙ ap (λ (x : ℕ). x % 2) (mul-add-div_right (pow_pos j) (c * 2 ^ suc d) w)
    ∙ ap (λ (x : ℕ). (x + w / 2 ^ j) % 2) (ap (λ (x : ℕ). c * x) (pow-suc 2 d) ∙ sym (mul_assoc c (2 ^ d) 2))
    ∙ mul-add-mod_self_right (c * 2 ^ d) 2 (w / 2 ^ j)

pub has_word : (f : ℕ → Bool) (n j : ℕ) → j < n → has (word f n) j ≡ f j
unfolding has word
has_word f zero j h = absurd (not-suc-le-zero h)
has_word f (suc n) j h = go (has_word f n j) (eq-or-lt_of_le (le_of_suc-le-suc h))
  where
    go : (j < n → eqb (word f n / 2 ^ j % 2) 1 ≡ f j) → (j ≡ n) ⊎ (j < n) → eqb ((bit (f n) * 2 ^ n + word f n) / 2 ^ j % 2) 1 ≡ f j
    go ih (inl e) =
        subst (λ (k : ℕ). eqb ((bit (f n) * 2 ^ n + word f n) / 2 ^ k % 2) 1 ≡ f k) (sym e)
        (ap (λ (x : ℕ). eqb (x % 2) 1) (high (bit (f n)) n (word_lt f n)) ∙ bit_is (f n))
    go ih (inr l) =
        let e : n ≡ suc (n - suc j) + j = omega arith in
        ap (λ (x : ℕ). eqb ((bit (f n) * 2 ^ x + word f n) / 2 ^ j % 2) 1) e
        ∙ ap (λ (x : ℕ). eqb x 1) (skip (bit (f n)) (n - suc j) j (word f n)) ∙ ih l

-- a word below 2 ^ n has no term at or above n
pub has_beyond : (w n j : ℕ) → w < 2 ^ n → n ≤ j → has w j ≡ false
unfolding has
has_beyond w n j h l = ap (λ (x : ℕ). eqb (x % 2) 1) (div-eq_of_lt (lt_of_lt_of_le h (pow_mono l)))

pub has_lt : (w n j : ℕ) → w < 2 ^ n → T (has w j) → j < n
has_lt w n j h t = go (dec_lt j n)
  where
    go : Dec (j < n) → j < n
    go (yes l) = l
    go (no l) = absurd (subst T (has_beyond w n j h (omega (arith, l))) t)

-- ---- when two words are one

-- a test that fails from m on adds nothing to the word
pub word_rest : (f : ℕ → Bool) (m n : ℕ) → m ≤ n → ((j : ℕ) → m ≤ j → f j ≡ false) → word f n ≡ word f m
unfolding word
word_rest f m n l h = le_ind (λ (x : ℕ). word f x ≡ word f m) refl (λ x k i. rw (h x k) (omega arith)) n l

pub word_cong : (f g : ℕ → Bool) (n : ℕ) → ((j : ℕ) → j < n → f j ≡ g j) → word f n ≡ word g n
unfolding word
word_cong f g zero h = refl
word_cong f g (suc n) h = ap₂ (λ (b : Bool) (w : ℕ). bit b * 2 ^ n + w) (h n (omega arith)) (word_cong f g n (λ j l. h j (omega arith)))

-- a binary digit is the bit of its own test
pub digit_is : (x : ℕ) → x < 2 → bit (eqb x 1) ≡ x
digit_is zero h = refl
digit_is (suc zero) h = refl
digit_is (suc (suc x)) h = absurd (not-suc-le-zero (le_of_suc-le-suc (le_of_suc-le-suc h)))

-- the bits of w below n make w's remainder
pub word_mod : (w n : ℕ) → word (has w) n ≡ w % 2 ^ n
unfolding word has
word_mod w zero = sym (mod-one w)
word_mod w (suc n) =
    ap₂ (λ (x y : ℕ). x * 2 ^ n + y) (digit_is (w / 2 ^ n % 2) (mod-lt (w / 2 ^ n) (lit< tt))) (word_mod w n)
    ∙ sym (mod-pow-add w 1 n) ∙ ap (λ (x : ℕ). w % 2 ^ x) (one-add n)

-- a word below 2 ^ n is the word of its own bits
pub word_has : (w n : ℕ) → w < 2 ^ n → word (has w) n ≡ w
word_has w n h = word_mod w n ∙ mod-eq_of_lt h

-- two words below 2 ^ n with the same terms below n are one
pub word_ext : (v w n : ℕ) → v < 2 ^ n → w < 2 ^ n → ((j : ℕ) → j < n → has v j ≡ has w j) → v ≡ w
word_ext v w n hv hw e = sym (word_has v n hv) ∙ word_cong (has v) (has w) n e ∙ word_has w n hw
