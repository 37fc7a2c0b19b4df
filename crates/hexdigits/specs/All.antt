-- A test that holds of each number below a bound. Assumes nothing.
use Rattle.std.specs.Prelude.{◌≡◌, Bool, true, false, T}
use Rattle.std.proofs.Math.Path.{refl, ap, ap₂}
use Rattle.std.proofs.Common.{sym, ◌∙◌, subst, arith}
use Rattle.std.proofs.Math.Bool.{◌&&◌}
use Prim.Native.Nat.{ℕ, zero, suc, ◌+◌, ◌≤◌, ◌<◌}
use Rattle.std.proofs.Math.Numerals.{add-one}
use Rattle.std.proofs.Math.Decide.{le_ind, dec_lt}

-- f 0, f 1, .., f (n - 1) are all true
unfoldable pub all : (ℕ → Bool) → ℕ → Bool
all f zero = true
all f (suc n) = all f n && f n

pub and_both : (a b : Bool) → a && b ≡ true → (a ≡ true) × (b ≡ true)
and_both true b h = (refl, h)
and_both false b h = absurd (subst T (sym h) tt)

and_false : (t : Bool) → t && false ≡ false
and_false true = refl
and_false false = refl

module _ (f : ℕ → Bool) where
  pub all_none : all f 0 ≡ true
  unfolding all
  all_none = refl

  -- one more, as an invariant `all f i ≡ true` asks it
  pub all_more : {i : ℕ} → all f i ≡ true → f i ≡ true → all f (i + 1) ≡ true
  unfolding all
  all_more {i} a h = rw add-one (ap₂ ◌&&◌ a h)

  -- the end: the number is the bound
  pub all_end : {i n : ℕ} → all f i ≡ true → i ≤ n → n ≤ i → all f n ≡ true
  all_end {i} {n} a h k = let e : i ≡ n = omega arith in rw e at a

  -- one that fails
  pub all_not : (i n : ℕ) → i < n → f i ≡ false → all f n ≡ false
  unfolding all
  all_not i n h e =
      le_ind (λ (m : ℕ). all f m ≡ false) (ap (λ (t : Bool). all f i && t) e ∙ and_false (all f i)) (λ m l a. ap (λ (t : Bool). t && f m) a) n h

  pub all_at : (n k : ℕ) → all f n ≡ true → k < n → f k ≡ true
  unfolding all
  all_at zero k a h = absurd (omega arith)
  all_at (suc n) k a h =
      let both = and_both (all f n) (f n) a in
      elim (dec_lt k n) [
        | yes l ↦ all_at n k both.0 l
        | no l ↦ let e : n ≡ k = omega (arith, l) in rw e at both.1
      ]

  pub all_each : (n : ℕ) → ((k : ℕ) → k < n → f k ≡ true) → all f n ≡ true
  unfolding all
  all_each zero h = refl
  all_each (suc n) h = ap₂ ◌&&◌ (all_each n (λ k l. h k (omega arith))) (h n (omega arith))
