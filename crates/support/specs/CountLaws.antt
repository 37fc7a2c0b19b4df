-- Laws of counting: the count of ones is the count of a word's terms, counts and places rise. Assumes nothing.
use Rattle.std.specs.Prelude.{◌≡◌, refl, ◌≢◌, Bool, true, false, ℕ, zero, suc, ◌+◌, ◌*◌, ◌^◌, ◌≤◌, ◌<◌, T}
use Rattle.std.proofs.Common.{sym, ap, ap₂, ◌∙◌, add_comm, le_refl, lt_of_lt_of_le, mod-eq_of_lt, add-one, arith, pow_mono, lt-ltb}
use Rattle.std.proofs.Math.Decide.{le_ind}
use Rattle.std.specs.Int.Count.{ones, ones-ones}
use Rattle.std.proofs.lemmas.Nat.{ones_cat}
use Rattle.support.specs.Word.{has, bit, count, word, place, full}
use Rattle.support.specs.WordLaws.{passes, word_lt, has_lt, word_mod, word_has}
use Rattle.support.specs.SupportLaws.{has_full, full_word, full_is}

-- ---- the count of ones

ones_bit : (b : Bool) → ones (bit b) ≡ bit b
unfolding ones
ones_bit true = refl
ones_bit false = refl

-- the ones of a word are the terms that pass its test
pub ones_word : (f : ℕ → Bool) (n : ℕ) → ones (word f n) ≡ count f n
unfolding word count ones
ones_word f zero = refl
ones_word f (suc n) =
    ones_cat n (bit (f n)) (word f n) (word_lt f n)
    ∙ ap₂ (λ (x y : ℕ). x + y) (ones_bit (f n)) (ones_word f n) ∙ add_comm (bit (f n)) (count f n)

pub ones_is : (w n : ℕ) → w < 2 ^ n → ones w ≡ count (has w) n
ones_is w n h = ap ones (sym (word_has w n h)) ∙ ones_word (has w) n

pub place_is : (w j : ℕ) → place w j ≡ count (has w) j
unfolding place
place_is w j = ap ones (sym (word_mod w j)) ∙ ones_word (has w) j

-- ---- counts and places rise

pub count_none : (f : ℕ → Bool) → count f 0 ≡ 0
unfolding count
count_none f = refl

pub count_take : (f : ℕ → Bool) (j : ℕ) → f j ≡ true → count f (j + 1) ≡ count f j + 1
unfolding count
count_take f j e = rw (add-one j, e)

pub count_skip : (f : ℕ → Bool) (j : ℕ) → f j ≡ false → count f (j + 1) ≡ count f j
unfolding count
count_skip f j e = rw (add-one j, e) (omega arith)

pub count_cong : (f g : ℕ → Bool) (n : ℕ) → ((j : ℕ) → j < n → f j ≡ g j) → count f n ≡ count g n
unfolding count
count_cong f g zero h = refl
count_cong f g (suc n) h = ap₂ (λ (c : ℕ) (b : Bool). c + bit b) (count_cong f g n (λ j l. h j (omega arith))) (h n (omega arith))

pub count_le : (f : ℕ → Bool) (n : ℕ) → count f n ≤ n
unfolding count
count_le f zero = omega arith
count_le f (suc n) = next (f n) (count_le f n)
  where
    next : (b : Bool) → count f n ≤ n → count f n + bit b ≤ suc n
    next true h = omega arith
    next false h = omega arith

-- a word with a term counts at least one
pub count_pos : (f : ℕ → Bool) (n : ℕ) → word f n ≢ 0 → 0 < count f n
unfolding count word
count_pos f zero h = absurd (h refl)
count_pos f (suc n) h = next (f n) h (count_pos f n)
  where
    next : (b : Bool) → bit b * 2 ^ n + word f n ≢ 0 → (word f n ≢ 0 → 0 < count f n) → 0 < count f n + bit b
    next true h k = omega arith
    next false h k = let p : 0 < count f n = k (λ e. h (omega arith)) in omega arith

pub count_mono : (f : ℕ → Bool) (j n : ℕ) → j ≤ n → count f j ≤ count f n
unfolding count
count_mono f j n h = le_ind (λ (m : ℕ). count f j ≤ count f m) (le_refl (count f j)) (λ m l i. omega arith) n h

-- one that passes has a smaller count below it than any later one
pub count_rises : (f : ℕ → Bool) (j n : ℕ) → j < n → T (f j) → count f j < count f n
unfolding count
count_rises f j n h t = omega (arith, count_mono f (suc j) n h, ap bit (passes (f j) t))

-- so the reduced places of a support rise strictly with the term, and lie below its count
pub place_rises : (w j k : ℕ) → j < k → T (has w j) → place w j < place w k
place_rises w j k h t = omega (arith, place_is w j, place_is w k, count_rises (has w) j k h t)

pub place_lt : (w n j : ℕ) → w < 2 ^ n → T (has w j) → place w j < ones w
place_lt w n j s t = omega (arith, place_is w j, ones_is w n s, count_rises (has w) j n (has_lt w n j s t) t)

-- a term beyond the word has all of them below it
pub place_beyond : (w n j : ℕ) → w < 2 ^ n → n ≤ j → place w j ≡ ones w
unfolding place
place_beyond w n j s l = ap ones (mod-eq_of_lt (lt_of_lt_of_le s (pow_mono l)))

-- ---- the full support

pub ones_full : (n : ℕ) → n ≤ 64 → ones (full n) ≡ n
ones_full n l = ap ones (full_is n l) ∙ ones-ones n

-- each term's place is its own number
pub count_full : (n j : ℕ) → n ≤ 64 → j ≤ n → count (has (full n)) j ≡ j
count_full n j l h =
    count_cong _ (λ k. true) j (λ k m. has_full n k (omega arith) ∙ lt-ltb k n (omega arith))
    ∙ sym (ones_word (λ k. true) j) ∙ ap ones (sym (full_word j (omega arith))) ∙ ones_full j (omega arith)
