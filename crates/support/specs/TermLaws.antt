-- Laws of term numbers and reduced places: each is the other's inverse on the terms of a support, and both rise. Assumes nothing.
use Rattle.std.specs.Prelude.{◌≡◌, refl, ◌⊎◌, List, [], ◌∷◌, ◌++◌, Bool, true, false, cond, ℕ, zero, suc, ◌+◌, ◌^◌, ◌≤◌, ◌<◌, T, length, get_or}
use Rattle.std.proofs.Common.{sym, ap, ap₂, ◌∙◌, inl, inr, eq-or-lt_of_le, not-suc-le-zero, lt_of_not-le, arith, lt-ltb, length-append}
use Rattle.std.proofs.Math.Decide.{dec_lt}
use Rattle.std.proofs.Math.ListN.{get_or-append, get_or-eq_default}
use Rattle.std.proofs.lemmas.List.{get_or_at}
use Rattle.std.specs.Int.Count.{ones}
use Rattle.support.specs.Word.{has, bit, count, terms, place, term, term_at, full}
use Rattle.support.specs.WordLaws.{passed, has_lt}
use Rattle.support.specs.SupportLaws.{has_full}
use Rattle.support.specs.CountLaws.{ones_is, place_is, count_mono, count_rises, count_full}

-- ---- the list of the terms

tail_length : (b : Bool) (n : ℕ) → length (cond b (n ∷ []) []) ≡ bit b
tail_length true n = refl
tail_length false n = refl

pub length_terms : (f : ℕ → Bool) (n : ℕ) → length (terms f n) ≡ count f n
unfolding terms count
length_terms f zero = refl
length_terms f (suc n) = length-append (terms f n) (cond (f n) (n ∷ []) []) ∙ ap₂ (λ (x y : ℕ). x + y) (length_terms f n) (tail_length (f n) n)

-- j stands at the place p: it is below n, it passes the test f, and p below it pass
pub record Stands (f : ℕ → Bool) (n p j : ℕ) : Type 0 where
  pub below : j < n
  pub passes : T (f j)
  pub place : count f j ≡ p

pub terms_at : (f : ℕ → Bool) (n p d : ℕ) → p < count f n → Stands f n p (get_or (terms f n) p d)
unfolding terms count
terms_at f zero p d h = absurd (not-suc-le-zero h)
terms_at f (suc n) p d h = next (f n) refl (terms_at f n p d) h
  where
    old : (t : List ℕ) → p < count f n → Stands f n p (get_or (terms f n) p d) → Stands f (suc n) p (get_or (terms f n ++ t) p d)
    old t l i = rw (get_or-append (terms f n) t d p (rw length_terms l)) (record { below = omega (arith, i.below); passes = i.passes; place = i.place })

    next : (b : Bool) → f n ≡ b → (p < count f n → Stands f n p (get_or (terms f n) p d)) → p < count f n + bit b
        → Stands f (suc n) p (get_or (terms f n ++ cond b (n ∷ []) []) p d)
    next false e ih h = let l : p < count f n = omega arith in old [] l (ih l)
    next true e ih h = pick (eq-or-lt_of_le (let l : p ≤ count f n = omega arith in l))
      where
        pick : (p ≡ count f n) ⊎ (p < count f n) → Stands f (suc n) p (get_or (terms f n ++ (n ∷ [])) p d)
        pick (inl q) = rw (get_or_at (terms f n) n [] d p (length_terms f n ∙ sym q)) (record { below = omega arith; passes = passed e; place = sym q })
        pick (inr l) = old (n ∷ []) l (ih l)

-- two that pass and have one place are one
pub place_once : (f : ℕ → Bool) (j k : ℕ) → T (f j) → T (f k) → count f j ≡ count f k → j ≡ k
place_once f j k s t e = go (dec_lt j k) (dec_lt k j)
  where
    go : Dec (j < k) → Dec (k < j) → j ≡ k
    go (yes h) d = absurd (omega (arith, count_rises f j k h s))
    go (no h) (yes l) = absurd (omega (arith, count_rises f k j l t))
    go (no h) (no l) = omega (arith, h, l)

-- ---- a support's terms among n columns

-- the term of a place is in the support, and the place is its own
pub term_is : (n w p : ℕ) → p < count (has w) n → Stands (has w) n p (term n w p)
unfolding term
term_is n w p h = terms_at (has w) n p n h

-- the term of a place is one of the columns
pub term_below : (n w p : ℕ) → w < 2 ^ n → p < ones w → term n w p < n
term_below n w p h l = (term_is n w p (rw (← ones_is w n h) l)).below

-- the term of a term's place is that term
pub term_of_place : (n w j : ℕ) → j < n → T (has w j) → term n w (count (has w) j) ≡ j
term_of_place n w j l t =
    let i = term_is n w (count (has w) j) (count_rises (has w) j n l t) in
    place_once (has w) (term n w (count (has w) j)) j i.passes t i.place

pub term_rises : (n w p q : ℕ) → p < q → q < count (has w) n → term n w p < term n w q
term_rises n w p q l h =
    let i = term_is n w p (omega arith) in
    let k = term_is n w q h in
    order (term n w p) (term n w q) (omega (arith, i.place, k.place))
  where
    order : (a b : ℕ) → count (has w) a < count (has w) b → a < b
    order a b m = lt_of_not-le (λ (g : b ≤ a). omega (arith, count_mono (has w) b a g))

pub term_beyond : (n w p : ℕ) → count (has w) n ≤ p → term n w p ≡ n
unfolding term
term_beyond n w p h = get_or-eq_default (terms (has w) n) n (rw length_terms h)

-- every term of the full support stands at its own number
pub term_full : (n p : ℕ) → n ≤ 64 → p < n → term n (full n) p ≡ p
term_full n p l h =
    let i = term_is n (full n) p (rw (count_full n n l (omega arith)) h) in
    sym (count_full n (term n (full n) p) l (omega (arith, i.below))) ∙ i.place

-- ---- the same, as the code has it: `place` and `term_at`, of a word of 64 bits

-- the term j is in w, and its reduced place is c
pub record Member (w c j : ℕ) : Type 0 where
  pub below : j < 64
  pub in_it : T (has w j)
  pub placed : place w j ≡ c

pub term_at_is : (w c : ℕ) → w < 2 ^ 64 → c < ones w → Member w c (term_at w c)
term_at_is w c s h =
    let i = term_is 64 w c (rw (← ones_is w 64 s) h) in
    record { below = i.below; in_it = i.passes; placed = place_is w (term_at w c) ∙ i.place }

pub term_at_place : (w j : ℕ) → w < 2 ^ 64 → T (has w j) → term_at w (place w j) ≡ j
term_at_place w j s t = ap (term_at w) (place_is w j) ∙ term_of_place 64 w j (has_lt w 64 j s t) t

-- every column of all n is its own term
pub term_at_full : (n c : ℕ) → n ≤ 64 → c < n → term_at (full n) c ≡ c
term_at_full n c l h =
    let i = term_is 64 (full n) c (omega (arith, h, count_full n n l (omega arith), count_mono (has (full n)) n 64 l)) in
    place_once (has (full n)) (term_at (full n) c) c i.passes (passed (has_full n c (omega arith) ∙ lt-ltb c n h)) (i.place ∙ sym (count_full n c l (omega arith)))

-- the 64 terms that the code looks at, or the n columns of a rule: the term is the same
pub term_at_term : (n w c : ℕ) → w < 2 ^ n → w < 2 ^ 64 → c < ones w → term_at w c ≡ term n w c
term_at_term n w c l s h =
    let i = term_is 64 w c (rw (← ones_is w 64 s) h) in
    let k = term_is n w c (rw (← ones_is w n l) h) in
    place_once (has w) (term_at w c) (term n w c) i.passes k.passes (i.place ∙ sym k.place)
