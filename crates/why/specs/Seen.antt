-- What stands after each round of a term that no look has dropped, and of one that a look dropped. Assumes nothing.
use Rattle.std.specs.Prelude.{None, Some, ◌≡◌, refl, true, false, List, [], ◌∷◌, ◌++◌, ℕ, suc, length, Float, Option}
use Rattle.std.proofs.Common.{sym, ap, ◌∙◌, subst, append_assoc, arith}
use Rattle.steps.specs.Num.{at}
use Rattle.support.specs.Word.{has}
use Rattle.rule.specs.Rule.{Problem, State, going, done, support, rounds, refitted, coeffs_of}
use Rattle.rule.proofs.Stable.{goes_counted}
use Rattle.rule.specs.declared.Stop.TheVariants.{NoData, FirstRefused, Empty, RefitRefused, Settled, OutOfRounds}
use Rattle.rule.specs.declared.Look.{Look}
use Rattle.why.specs.Truth.{InEach, InNone, DroppedAt}

-- in none of two lists of refits is in none of both
both_none : (j : ℕ) (vs ws : List ℕ) → InNone j vs → InNone j ws → InNone j (vs ++ ws)
both_none j [] ws n m = m
both_none j (v ∷ vs) ws n m = (n.0, both_none j vs ws n.1 m)

module _ (P : Problem) (j : ℕ) where
  -- no look has dropped the term: it was in every refit, and a look that settled found it
  abbrev pub Stayed : State → Type 0
  Stayed (going cs ws) = InEach j ws
  Stayed (done NoData cs ws) = Unit {0}
  Stayed (done (FirstRefused t) cs ws) = Unit {0}
  Stayed (done Empty cs ws) = ⊥
  Stayed (done (RefitRefused t) cs ws) = InEach j ws
  Stayed (done Settled cs ws) = InEach j ws × (has (support P cs) j ≡ true)
  Stayed (done OutOfRounds cs ws) = ⊥

  -- after r rounds, by the look that dropped it: a dropped term does not return
  abbrev pub Seen : ℕ → Option Look → State → Type 0
  Seen r None s = Stayed s
  Seen r (Some d) s = DroppedAt P r j d.refit d.value × (Stayed s → ⊥) × (has (support P (coeffs_of s)) j ≡ false)

  -- a look of this round drops it
  pub drops_now : (r : ℕ) {cs : List Float} {ws : List ℕ} → rounds P r ≡ going cs ws → InEach j ws → has (support P cs) j ≡ false
      → (news : List ℕ) → refitted P (suc r) ≡ news ++ ws → InNone j news → DroppedAt P (suc r) j (suc (length ws)) (at cs j)
  drops_now r {cs} {ws} e i u news q n = record {
    before = ws;
    after = news;
    coeffs = cs;
    refits = q;
    in_each_before = i;
    in_none_after = n;
    in_limit = omega (arith, goes_counted P r e);
    looks = subst (λ (m : ℕ). rounds P m ≡ going cs ws) (sym (goes_counted P r e)) e;
    number = refl;
    saw = refl;
    unfound = u;
  }

  -- one dropped before stays so in a round more
  pub dropped_still : (r : ℕ) {k : ℕ} {c : Float} → DroppedAt P r j k c
      → (news : List ℕ) → refitted P (suc r) ≡ news ++ refitted P r → InNone j news → DroppedAt P (suc r) j k c
  dropped_still r d news q n = record {
    before = d.before;
    after = news ++ d.after;
    coeffs = d.coeffs;
    refits = q ∙ ap (λ (ws : List ℕ). news ++ ws) d.refits ∙ sym (append_assoc news d.after d.before);
    in_each_before = d.in_each_before;
    in_none_after = both_none j news d.after n d.in_none_after;
    in_limit = omega (arith, d.in_limit);
    looks = d.looks;
    number = d.number;
    saw = d.saw;
    unfound = d.unfound;
  }
