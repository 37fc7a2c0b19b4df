-- Laws of subsets: a subset counts no more terms, a strict subset fewer. Assumes nothing.
use Rattle.std.specs.Prelude.{◌≡◌, refl, ◌⊎◌, Bool, true, false, ℕ, zero, suc, ◌+◌, ◌*◌, ◌^◌, ◌<◌, T}
use Rattle.std.proofs.Common.{sym, ap, ◌∙◌, inl, inr, arith}
use Rattle.support.specs.Word.{has, bit, count, word, Strict}
use Rattle.support.specs.WordLaws.{word_has}

-- of two tests, one within the other, the first counts fewer or the words are one
within : (f g : ℕ → Bool) (n : ℕ) → ((j : ℕ) → j < n → T (f j) → T (g j)) → (count f n < count g n) ⊎ ((count f n ≡ count g n) × (word f n ≡ word g n))
unfolding count word
within f g zero h = inr (refl, refl)
within f g (suc n) h = next (f n) (g n) (h n (omega arith)) (within f g n (λ j l. h j (omega arith)))
  where
    next : (a b : Bool) → (T a → T b) → (count f n < count g n) ⊎ ((count f n ≡ count g n) × (word f n ≡ word g n))
        → (count f n + bit a < count g n + bit b) ⊎ ((count f n + bit a ≡ count g n + bit b) × (bit a * 2 ^ n + word f n ≡ bit b * 2 ^ n + word g n))
    next true true k (inl l) = inl (omega arith)
    next true true k (inr e) = inr (omega arith, ap (λ (w : ℕ). 1 * 2 ^ n + w) e.1)
    next true false k o = absurd (k tt)
    next false true k (inl l) = inl (omega arith)
    next false true k (inr e) = inl (omega arith)
    next false false k (inl l) = inl (omega arith)
    next false false k (inr e) = inr (omega arith, ap (λ (w : ℕ). 0 * 2 ^ n + w) e.1)

-- a strict subset counts fewer
pub strict_count : (n w v : ℕ) → w < 2 ^ n → v < 2 ^ n → Strict w v → count (has w) n < count (has v) n
strict_count n w v p q s =
    elim (within (has w) (has v) n (λ j l. s.within j)) [ inl l ↦ l | inr e ↦ absurd (s.other (sym (word_has w n p) ∙ e.1 ∙ word_has v n q)) ]
