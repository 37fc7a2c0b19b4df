-- The looks of a fit at one term: what `Seen` says stands after every round. Assumes nothing.
use Rattle.std.specs.Prelude.{None, Some, ◌≡◌, Bool, cond, eqb, length, Float, Option}
use Rattle.std.proofs.Math.Path.{refl, sym, ap}
use Rattle.std.proofs.Common.{◌∙◌, subst, arith, eqb-true}
use Rattle.std.proofs.Math.Bool.{true, false}
use mathlib.Core.List.{List, [], ◌∷◌, ◌++◌}
use Prim.Native.Nat.{ℕ, zero, suc}
use Rattle.steps.specs.Num.{at}
use Rattle.steps.specs.Cond.{either}
use Rattle.support.specs.Word.{has, Sub}
use Rattle.support.specs.WordLaws.{has_beyond, passed, passes}
use Rattle.refusal.specs.Answers.{Solution, solved, refused}
use Rattle.rule.specs.Rule.{Problem, State, going, done, latest, support, refit, look, round, first, start, rounds, past, refitted}
use Rattle.rule.proofs.Shrinking.{scattered}
use Rattle.rule.specs.Dropped.{drops, or_else, dropped, before}
use Rattle.rule.specs.declared.Look.{Look}
use Rattle.why.specs.Truth.{InEach, InNone, DroppedAt}
use Rattle.why.specs.Sharp.{Sharp, clash, contrary, not_in_zeros}
use Rattle.why.specs.Seen.{Stayed, Seen, drops_now, dropped_still}

-- what is not in a word is in no subset of it
not_within : (j w v : ℕ) → Sub w v → has v j ≡ false → has w j ≡ false
not_within j w v s e = contrary _ true (λ t. absurd (clash (passes _ (s j (passed t))) e)) refl

module _ {P : Problem} {j : ℕ} (sharp : Sharp P j) where
  -- a look that finds it
  found : (cs : List Float) (ws : List ℕ) → InEach j ws → has (support P cs) j ≡ true → Stayed P j (look P cs ws (support P cs))
  unfolding look refit
  found cs ws i f =
      either (Stayed P j) (eqb w 0) _ _ (λ t. clash f (ap (λ (v : ℕ). has v j) (eqb-true w 0 t) ∙ has_beyond 0 0 j (omega arith) (omega arith)))
      (λ z. either (Stayed P j) (eqb w (latest ws)) _ _ (λ t. (i, f)) (λ l. solving (P.solve w)))
    where
      w : ℕ
      w = support P cs

      solving : (a : Solution) → Stayed P j (refit P ws w a)
      solving (refused c) = (f, i)
      solving (solved vs) = (f, i)

  -- a look that does not
  unfound : (r : ℕ) {k : ℕ} {c : Float} (cs : List Float) (ws : List ℕ) → has (support P cs) j ≡ false
      → ((news : List ℕ) → refitted P (suc r) ≡ news ++ ws → InNone j news → DroppedAt P (suc r) j k c)
      → rounds P (suc r) ≡ look P cs ws (support P cs) → Seen P j (suc r) (Some (before k c)) (look P cs ws (support P cs))
  unfolding look refit refitted
  unfound r {k} {c} cs ws u d =
      either After (eqb w 0) _ _ (λ t e. (d [] (ap past e) tt, λ s. s, not_in_zeros sharp))
      (λ z. either After (eqb w (latest ws)) _ _ (λ t e. (d [] (ap past e) tt, λ s. clash s.1 u, u)) (λ l. solving (P.solve w)))
    where
      w : ℕ
      w = support P cs

      After : State → Type 0
      After s = rounds P (suc r) ≡ s → Seen P j (suc r) (Some (before k c)) s

      solving : (a : Solution) → After (refit P ws w a)
      solving (refused p) e = (d (w ∷ []) (ap past e) (u, tt), λ s. clash s.0 u, not_in_zeros sharp)
      solving (solved vs) e = (d (w ∷ []) (ap past e) (u, tt), λ s. clash s.0 u, not_within j _ w (scattered P sharp.zero_kept cs vs) u)

  -- a round
  step : (r : ℕ) (d : Option Look) (s : State) → rounds P r ≡ s → Seen P j r d s → Seen P j (suc r) (or_else d (drops P j s)) (round P s)
  unfolding rounds round refitted or_else drops
  step r None (done t cs ws) e i = i
  step r (Some d) (done t cs ws) e i = (dropped_still P j r i.0 [] (ap past (ap (round P) e ∙ sym e)) tt, i.1, i.2)
  step r (Some d) (going cs ws) e i =
      unfound r cs ws i.2 (λ news q n. dropped_still P j r i.0 news (q ∙ ap (λ s. news ++ past s) (sym e)) n) (ap (round P) e)
  step r None (going cs ws) e i = by (has (support P cs) j) refl
    where
      by : (b : Bool) → has (support P cs) j ≡ b → Seen P j (suc r) (cond b None (Some (before (suc (length ws)) (at cs j)))) (look P cs ws (support P cs))
      by true f = found cs ws i f
      by false u = unfound r cs ws u (drops_now P j r e i u) (ap (round P) e)

  -- the first solve drops nothing
  begun : Stayed P j (start P)
  unfolding start first
  begun =
      either (Stayed P j) (eqb P.rows 0) _ _ (λ t. tt)
      (λ k. either (Stayed P j) (eqb P.cols 0) _ _ (λ t. tt) (λ l. solving P.whole))
    where
      solving : (a : Solution) → Stayed P j (first P a)
      solving (refused c) = tt
      solving (solved vs) = tt

  -- and so after every round
  pub seen : (r : ℕ) → Seen P j r (dropped P j r) (rounds P r)
  unfolding dropped rounds
  seen zero = begun
  seen (suc r) = step r (dropped P j r) (rounds P r) refl (seen r)

  -- no look dropped the term if what a drop leaves does not stand
  pub none_dropped : (r : ℕ) → ((k : ℕ) (c : Float) → Seen P j r (Some (before k c)) (rounds P r) → ⊥) → dropped P j r ≡ None
  none_dropped r not = go (dropped P j r) (seen r)
    where
      go : (d : Option Look) → Seen P j r d (rounds P r) → d ≡ None
      go None i = refl
      go (Some d) i = absurd (not d.refit d.value i)

  -- and so if it stayed
  pub stayed : (r : ℕ) {s : State} → rounds P r ≡ s → Stayed P j s → dropped P j r ≡ None
  stayed r e i = none_dropped r (λ k c d. d.1 (subst (Stayed P j) (sym e) i))
