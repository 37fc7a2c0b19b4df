-- Loops over the numbers lo..hi, by rising and by falling number, and loops that are left early. Each has its laws for no turn, one more, and the end.
use Rattle.std.specs.Prelude.{◌≡◌}
use Rattle.std.proofs.Math.Path.{refl, ap}
use Rattle.std.proofs.Common.{sym, ◌∙◌, add-sub_of_le, add-suc, not-suc-le-zero, le_antisymm}
use Prim.Native.Nat.{ℕ, zero, suc, ◌+◌, ◌-◌, ◌≤◌, ◌<◌}
use Rattle.std.proofs.Math.Nat.{sub_self, add-zero}
use native.Mathlib.Omega.{arith}

module _ {ℓ} {S : Type ℓ} where
  -- f at lo, lo + 1, .., k of them in turn
  unfoldable pub turns : ℕ → ℕ → (ℕ → S → S) → S → S
  turns lo zero f s = s
  turns lo (suc k) f s = f (lo + k) (turns lo k f s)

  -- `for i in lo..hi { s = f(i, s) }`
  unfoldable pub loop : ℕ → ℕ → (ℕ → S → S) → S → S
  loop lo hi f s = turns lo (hi - lo) f s

  pub loop_none : (lo : ℕ) (f : ℕ → S → S) (s : S) → loop lo lo f s ≡ s
  unfolding loop turns
  loop_none lo f s = rw sub_self

  pub loop_step : (lo i : ℕ) (f : ℕ → S → S) (s : S) → lo ≤ i → loop lo (i + 1) f s ≡ f i (loop lo i f s)
  unfolding loop turns
  loop_step lo i f s h =
      let e : i + 1 - lo ≡ suc (i - lo) = omega arith in
      rw e (ap (λ (k : ℕ). f k (turns lo (i - lo) f s)) (add-sub_of_le h))

  -- one more turn, as an invariant `t ≡ loop lo i f s` asks it
  pub loop_more : (lo i : ℕ) (f : ℕ → S → S) (s : S) {t u : S} → lo ≤ i → t ≡ loop lo i f s → u ≡ f i t → u ≡ loop lo (i + 1) f s
  loop_more lo i f s h p q = q ∙ ap (f i) p ∙ sym (loop_step lo i f s h)

  -- the end: the number is the bound
  pub loop_end : (lo i hi : ℕ) (f : ℕ → S → S) (s : S) {t : S} → t ≡ loop lo i f s → i ≤ hi → hi ≤ i → t ≡ loop lo hi f s
  loop_end lo i hi f s p h k = p ∙ ap (λ (x : ℕ). loop lo x f s) (le_antisymm h k)

  -- what each turn keeps, of those that the loop takes, the loop keeps
  pub loop_keeps_below : (P : S → Type 0) (lo hi : ℕ) (f : ℕ → S → S) (s : S) → ((i : ℕ) (t : S) → i < hi → P t → P (f i t)) → P s → P (loop lo hi f s)
  unfolding loop turns
  loop_keeps_below P lo hi f s k p = go (hi - lo) (λ i l. omega arith)
    where
      go : (n : ℕ) → ((i : ℕ) → i < n → lo + i < hi) → P (turns lo n f s)
      go zero b = p
      go (suc n) b = k (lo + n) (turns lo n f s) (b n (omega arith)) (go n (λ i l. b i (omega arith)))

  pub loop_keeps : (P : S → Type 0) (lo hi : ℕ) (f : ℕ → S → S) (s : S) → ((i : ℕ) (t : S) → P t → P (f i t)) → P s → P (loop lo hi f s)
  loop_keeps P lo hi f s k p = loop_keeps_below P lo hi f s (λ i t l. k i t) p

  -- loops whose turns are alike give the same
  pub loop_cong : (lo hi : ℕ) (f g : ℕ → S → S) (s : S) → ((i : ℕ) (t : S) → lo ≤ i → i < hi → f i t ≡ g i t) → loop lo hi f s ≡ loop lo hi g s
  unfolding loop turns
  loop_cong lo hi f g s h = go (hi - lo) (λ i k. omega arith)
    where
      go : (n : ℕ) → ((i : ℕ) → i < n → lo + i < hi) → turns lo n f s ≡ turns lo n g s
      go zero b = refl
      go (suc n) b =
          h (lo + n) (turns lo n f s) (omega arith) (b n (omega arith))
          ∙ ap (g (lo + n)) (go n (λ i k. b i (omega arith)))

  -- a state that no turn changes is the loop's result
  pub loop_fixed : (lo i hi : ℕ) (f : ℕ → S → S) (s t : S) → lo ≤ i → i ≤ hi → loop lo i f s ≡ t → ((k : ℕ) → f k t ≡ t) → loop lo hi f s ≡ t
  unfolding loop turns
  loop_fixed lo i hi f s t h h' e k = let d : hi - lo ≡ (i - lo) + (hi - i) = omega arith in rw d (go (hi - i))
    where
      go : (n : ℕ) → turns lo ((i - lo) + n) f s ≡ t
      go zero = rw add-zero e
      go (suc n) = rw (add-suc, go n) (k (lo + ((i - lo) + n)))

  -- `for i in (0..n).rev() { s = f(i, s) }`
  unfoldable pub down_from : ℕ → (ℕ → S → S) → S → S
  down_from zero f s = s
  down_from (suc i) f s = down_from i f (f i s)

  pub down_none : (f : ℕ → S → S) (s : S) → down_from 0 f s ≡ s
  unfolding down_from
  down_none f s = refl

  -- one turn: what is left from i is what is left from i - 1 after it
  pub down_more : (f : ℕ → S → S) (i : ℕ) (s : S) → 0 < i → down_from i f s ≡ down_from (i - 1) f (f (i - 1) s)
  unfolding down_from
  down_more f zero s h = absurd (not-suc-le-zero h)
  down_more f (suc i) s h = let e : suc i - 1 ≡ i = omega arith in rw e

  pub down_fixed : (f : ℕ → S → S) (i : ℕ) (s : S) → ((k : ℕ) → f k s ≡ s) → down_from i f s ≡ s
  unfolding down_from
  down_fixed f zero s h = refl
  down_fixed f (suc i) s h = ap (down_from i f) (h i) ∙ down_fixed f i s h

  pub down_keeps_below : (P : S → Type 0) (n : ℕ) (f : ℕ → S → S) (s : S) → ((i : ℕ) (t : S) → i < n → P t → P (f i t)) → P s → P (down_from n f s)
  unfolding down_from
  down_keeps_below P zero f s k p = p
  down_keeps_below P (suc n) f s k p = down_keeps_below P n f (f n s) (λ i t l. k i t (omega arith)) (k n s (omega arith) p)

  pub down_keeps : (P : S → Type 0) (n : ℕ) (f : ℕ → S → S) (s : S) → ((i : ℕ) (t : S) → P t → P (f i t)) → P s → P (down_from n f s)
  down_keeps P n f s k p = down_keeps_below P n f s (λ i t l. k i t) p

-- The state of a loop that can be left early: still going, or stopped at a number (a refused column).
pub data Way (S : Type 0) : Type 0 where
  going : S → Way S
  stopped : ℕ → S → Way S

-- what stands at the end, either way
abbrev pub final : {S : Type 0} → Way S → S
final (going s) = s
final (stopped c s) = s

-- stopped, if at all, at a number below n
abbrev pub StopsBelow : {S : Type 0} → ℕ → Way S → Type 0
StopsBelow n (going s) = Unit {0}
StopsBelow n (stopped c s) = c < n

-- a turn: where it is still going, f says how it goes on
abbrev pub onward : {S : Type 0} → (ℕ → S → Way S) → ℕ → Way S → Way S
onward f i (going s) = f i s
onward f i (stopped c s) = stopped c s

module _ {S : Type 0} (f : ℕ → S → Way S) where
  -- `for i in lo..hi` from s, left at the first turn that stops
  unfoldable pub way : ℕ → ℕ → S → Way S
  way lo hi s = loop lo hi (onward f) (going s)

  pub way_none : (lo : ℕ) (s : S) → way lo lo s ≡ going s
  unfolding way
  way_none lo s = loop_none lo (onward f) (going s)

  pub way_goes : (lo i : ℕ) (s t u : S) → lo ≤ i → way lo i s ≡ going t → f i t ≡ going u → way lo (i + 1) s ≡ going u
  unfolding way
  way_goes lo i s t u h e g = rw (loop_step, e) g

  pub way_stops : (lo i hi c : ℕ) (s t u : S) → lo ≤ i → i < hi → way lo i s ≡ going t → f i t ≡ stopped c u → way lo hi s ≡ stopped c u
  unfolding way
  way_stops lo i hi c s t u h h' e g =
      loop_fixed lo (i + 1) hi (onward f) (going s) (stopped c u) (omega arith) (omega arith) (rw (loop_step, e) g) (λ k. refl)

  -- the same by falling number, from below n
  unfoldable pub way_down : ℕ → S → Way S
  way_down n s = down_from n (onward f) (going s)

  pub way_down_none : (s : S) → way_down 0 s ≡ going s
  unfolding way_down
  way_down_none s = down_none (onward f) (going s)

  pub way_down_goes : (i : ℕ) (s t : S) → 0 < i → f (i - 1) s ≡ going t → way_down i s ≡ way_down (i - 1) t
  unfolding way_down
  way_down_goes i s t h e = down_more (onward f) i (going s) h ∙ rw e

  pub way_down_stops : (i c : ℕ) (s t : S) → 0 < i → f (i - 1) s ≡ stopped c t → way_down i s ≡ stopped c t
  unfolding way_down
  way_down_stops i c s t h e = down_more (onward f) i (going s) h ∙ rw e (down_fixed (onward f) (i - 1) (stopped c t) (λ k. refl))

  -- what each turn keeps, both keep, stopped or not
  module _ (P : S → Type 0) (k : (i : ℕ) (t : S) → P t → P (final (f i t))) where
    onward_keeps : (i : ℕ) (w : Way S) → P (final w) → P (final (onward f i w))
    onward_keeps i (going s) p = k i s p
    onward_keeps i (stopped c s) p = p

    pub way_keeps : (lo hi : ℕ) (s : S) → P s → P (final (way lo hi s))
    unfolding way
    way_keeps lo hi s p = loop_keeps (λ w. P (final w)) lo hi (onward f) (going s) onward_keeps p

    pub way_down_keeps : (n : ℕ) (s : S) → P s → P (final (way_down n s))
    unfolding way_down
    way_down_keeps n s p = down_keeps (λ w. P (final w)) n (onward f) (going s) onward_keeps p

  -- turns that stop below n: so do both
  module _ (n : ℕ) (k : (i : ℕ) (t : S) → i < n → StopsBelow n (f i t)) where
    onward_below : (i : ℕ) (w : Way S) → i < n → StopsBelow n w → StopsBelow n (onward f i w)
    onward_below i (going s) l p = k i s l
    onward_below i (stopped c s) l p = p

    pub way_below : (lo : ℕ) (s : S) → StopsBelow n (way lo n s)
    unfolding way
    way_below lo s = loop_keeps_below (StopsBelow n) lo n (onward f) (going s) onward_below tt

    pub way_down_below : (s : S) → StopsBelow n (way_down n s)
    unfolding way_down
    way_down_below s = down_keeps_below (StopsBelow n) n (onward f) (going s) onward_below tt
