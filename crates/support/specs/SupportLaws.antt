-- Laws of the supports that `support` makes: a term put in and taken out, every term below n, and a word made term by term. Assumes nothing.
use Rattle.std.specs.Prelude.{◌≡◌, refl, Bool, true, false, not, ◌&&◌, ◌||◌, ℕ, zero, suc, ◌+◌, ◌-◌, ◌^◌, ◌≤◌, ◌<◌, eqb, ltb}
use Rattle.std.proofs.Common.{sym, ap, ap₂, ◌∙◌, pow-suc, add-one, arith, pow_pos, lt-ltb, le-ltb, eq-eqb, ne_eqb}
use Rattle.std.proofs.Math.Bool.{and-true, or-true, or-false}
use Rattle.std.proofs.Math.Decide.{dec_lt}
use Rattle.support.specs.Word.{has, word, alone, full, with_term, without_term}
use Rattle.support.specs.WordLaws.{word_none, word_lt, has_word, has_beyond, word_rest, word_cong, word_has}

-- ---- a term put in, a term taken out

pub has_alone : (j k : ℕ) → k < 64 → has (alone j) k ≡ eqb k j
unfolding alone
has_alone j k h = has_word _ 64 k h

pub has_with : (w j k : ℕ) → k < 64 → has (with_term w j) k ≡ (has w k || eqb k j)
unfolding with_term
has_with w j k h = has_word _ 64 k h

pub has_without : (w j k : ℕ) → k < 64 → has (without_term w j) k ≡ (has w k && not (eqb k j))
unfolding without_term
has_without w j k h = has_word _ 64 k h

no_terms : (n : ℕ) → word (λ k. false) n ≡ 0
no_terms n = word_rest _ 0 n (omega arith) (λ k h. refl) ∙ word_none _

-- a term of 64 or more is none of the 64
other : (j k : ℕ) → 64 ≤ j → k < 64 → eqb k j ≡ false
other j k l h = ne_eqb k j (λ e. omega arith)

pub alone_beyond : (j : ℕ) → 64 ≤ j → alone j ≡ 0
unfolding alone
alone_beyond j l = word_cong _ (λ k. false) 64 (λ k h. other j k l h) ∙ no_terms 64

pub alone_is : (j : ℕ) → j < 64 → alone j ≡ 2 ^ j
unfolding alone word
alone_is j l =
    let none : word (λ k. eqb k j) j ≡ 0 = word_cong _ (λ k. false) j (λ k h. ne_eqb k j (λ e. omega arith)) ∙ no_terms j in
    word_rest _ (suc j) 64 l (λ k h. ne_eqb k j (λ e. omega arith)) ∙ rw (eq-eqb j j refl, none) (omega arith)

pub with_beyond : (w j : ℕ) → w < 2 ^ 64 → 64 ≤ j → with_term w j ≡ w
unfolding with_term
with_beyond w j s l = word_cong _ (has w) 64 (λ k h. ap (λ (b : Bool). has w k || b) (other j k l h) ∙ or-false (has w k)) ∙ word_has w 64 s

pub without_beyond : (w j : ℕ) → w < 2 ^ 64 → 64 ≤ j → without_term w j ≡ w
unfolding without_term
without_beyond w j s l = word_cong _ (has w) 64 (λ k h. ap (λ (b : Bool). has w k && not b) (other j k l h) ∙ and-true (has w k)) ∙ word_has w 64 s

-- ---- every term below n

pub has_full : (n j : ℕ) → j < 64 → has (full n) j ≡ ltb j n
unfolding full
has_full n j h = has_word _ 64 j h

-- as the word of n columns whose every test passes
pub full_word : (n : ℕ) → n ≤ 64 → full n ≡ word (λ k. true) n
unfolding full
full_word n l = word_rest _ n 64 l (λ k h. le-ltb k n h) ∙ word_cong _ (λ k. true) n (λ k h. lt-ltb k n h)

all_ones : (n : ℕ) → word (λ k. true) n ≡ 2 ^ n - 1
unfolding word
all_ones zero = omega arith
all_ones (suc n) = rw (pow-suc 2 n) (omega (arith, all_ones n, pow_pos n))

-- as a number
pub full_is : (n : ℕ) → n ≤ 64 → full n ≡ 2 ^ n - 1
full_is n l = full_word n l ∙ all_ones n

pub full_lt : (n : ℕ) → n ≤ 64 → full n < 2 ^ n
full_lt n l = rw (full_word n l) (word_lt _ n)

pub full_beyond : (n : ℕ) → 64 ≤ n → full n ≡ 2 ^ 64 - 1
unfolding full
full_beyond n l = word_cong _ (λ k. true) 64 (λ k h. lt-ltb k n (omega arith)) ∙ all_ones 64

-- ---- a word made term by term, as a loop over the terms collects it

pub word_take : (f : ℕ → Bool) (j : ℕ) {w : ℕ} → j < 64 → f j ≡ true → w ≡ word f j → with_term w j ≡ word f (j + 1)
unfolding with_term
word_take f j l e s = ap (λ (x : ℕ). with_term x j) s ∙ word_rest _ (j + 1) 64 (omega arith) after ∙ word_cong _ f (j + 1) before
  where
    after : (k : ℕ) → j + 1 ≤ k → (has (word f j) k || eqb k j) ≡ false
    after k h = ap₂ ◌||◌ (has_beyond (word f j) j k (word_lt f j) (omega arith)) (ne_eqb k j (λ q. omega arith))

    before : (k : ℕ) → k < j + 1 → (has (word f j) k || eqb k j) ≡ f k
    before k h = pick (dec_lt k j)
      where
        pick : Dec (k < j) → (has (word f j) k || eqb k j) ≡ f k
        pick (yes a) = ap₂ ◌||◌ (has_word f j k a) (ne_eqb k j (λ q. omega arith)) ∙ or-false (f k)
        pick (no a) =
            let q : k ≡ j = omega (arith, a) in
            ap (λ (b : Bool). has (word f j) k || b) (eq-eqb k j q) ∙ or-true (has (word f j) k) ∙ sym (ap f q ∙ e)

pub word_skip : (f : ℕ → Bool) (j : ℕ) {w : ℕ} → f j ≡ false → w ≡ word f j → w ≡ word f (j + 1)
unfolding word
word_skip f j e s = s ∙ rw (add-one j, e) (omega arith)
