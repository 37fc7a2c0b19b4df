-- What of demand 3 holds at any threshold; `Shrinking` has what rests on one above zero.
use Rattle.std.specs.Prelude.{◌≡◌, ◌≢◌, List, [], Float}
use Rattle.std.proofs.Math.Path.{refl, ap, subst}
use Rattle.std.proofs.Common.{sym, ◌∙◌, eq-or-lt_of_le}
use Rattle.std.proofs.Math.Logic.{⊎_elim}
use Prim.Native.Nat.{ℕ, suc, ◌≤◌, ◌<◌}
use Rattle.std.proofs.Math.Decide.{le_ind}
use native.Mathlib.Omega.{arith}
use Rattle.std.proofs.Math.ListN.{length}
use Rattle.rule.specs.declared.Stop.{Stop}
use Rattle.rule.specs.declared.Stop.TheVariants.{NoData, FirstRefused, Empty, RefitRefused, Settled, OutOfRounds}
use Rattle.rule.specs.Rule.{Problem, State, going, done, refit, round, first, rounds, reported, last_stop, finish, fit, past, refitted}
use Rattle.rule.specs.Course.{Course}
use Rattle.rule.specs.Stable.{Steady}
use Rattle.rule.proofs.Course.{after_rounds, of_fit}
use Rattle.rule.proofs.LastLook.{next_settles, next_same}

-- a fit that is done stopped for another reason than its limit
abbrev Ended : Stop → Type 0
Ended NoData = Unit {0}
Ended (FirstRefused t) = Unit {0}
Ended Empty = Unit {0}
Ended (RefitRefused t) = Unit {0}
Ended Settled = Unit {0}
Ended OutOfRounds = ⊥

module _ (P : Problem) where
  -- ---- more rounds change nothing

  pub stays : {t : Stop} {cs : List Float} {ws : List ℕ} (r m : ℕ) → rounds P r ≡ done t cs ws → r ≤ m → rounds P m ≡ done t cs ws
  unfolding rounds round
  stays {t} {cs} {ws} r m e h = le_ind (λ k. rounds P k ≡ done t cs ws) e (λ k l i. ap (round P) i) m h

  pub steady : Steady P
  unfolding fit finish reported
  steady = record { steady = λ r m h k. go r m h k (rounds P r) refl }
    where
      go : (r m : ℕ) → r ≤ m → (fit P r).stop ≢ OutOfRounds → (s : State) → rounds P r ≡ s → fit P m ≡ fit P r
      go r m h k (going cs ws) e = ⊎_elim (λ q. ap (fit P) (sym q)) late (eq-or-lt_of_le h)
        where
          here : last_stop P cs ws ≢ OutOfRounds
          here = subst (λ s. (finish P s).stop ≢ OutOfRounds) e k

          -- the last look settled: so does the next round, and the rest change nothing
          late : r < m → fit P m ≡ fit P r
          late l = ap (finish P) (stays (suc r) m (next_settles P r e here) l ∙ sym (next_settles P r e here)) ∙ next_same P r e here
      go r m h k (done t cs ws) e = ap (finish P) (stays r m e h ∙ sym e)

  -- ---- a round refits at most once

  -- after r rounds: as many refits while it goes on, and no more once it is done
  Counts : ℕ → State → Type 0
  Counts r (going cs ws) = length ws ≡ r
  Counts r (done t cs ws) = (length ws ≤ r) × Ended t

  counting : Course P Counts
  unfolding Counts first refit
  counting = record {
    nothing = λ e. (omega arith, tt);
    refused_first = λ e c q. (omega arith, tt);
    begins = λ e vs q. refl;
    rests = λ r t cs ws i. (omega (arith, i.0), i.1);
    empties = λ r cs ws i. (omega (arith, i), tt);
    settles = λ r cs ws i z e. (omega (arith, i), tt);
    refused_later = λ r cs ws i z l c q. (omega (arith, i), tt);
    refits = λ r cs ws i z l vs q. ap suc i;
  }

  -- a fit that goes on has refitted in each round
  pub goes_counted : (r : ℕ) {cs : List Float} {ws : List ℕ} → rounds P r ≡ going cs ws → length ws ≡ r
  unfolding Counts
  goes_counted r e = subst (Counts r) e (after_rounds P counting r)

  -- at any threshold: never more refits than rounds, and each round refitted where they ran out
  pub refits_few : (r : ℕ) → (fit P r).refits ≤ r
  unfolding reported Counts
  refits_few r = of_fit P counting (λ f. f.refits ≤ r) r (λ cs ws i. omega (arith, i)) (λ t cs ws i. i.0)

  pub ran_out : (r : ℕ) → (fit P r).stop ≡ OutOfRounds → (fit P r).refits ≡ r
  unfolding reported Counts
  ran_out r = of_fit P counting (λ f. f.stop ≡ OutOfRounds → f.refits ≡ r) r (λ cs ws i e. i) (λ t cs ws i e. absurd (subst Ended e i.1))

  -- the refit count is that of the refits of the rule
  pub refits_counted : (r : ℕ) → (fit P r).refits ≡ length (refitted P r)
  unfolding fit finish reported refitted
  refits_counted r = go (rounds P r)
    where
      go : (s : State) → (finish P s).refits ≡ length (past s)
      go (going cs ws) = refl
      go (done t cs ws) = refl
