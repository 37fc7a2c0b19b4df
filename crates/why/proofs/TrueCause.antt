-- The cause that is given is the true one. Assumes nothing.
use Rattle.std.specs.Prelude.{None, Some, ◌≡◌, ◌≢◌, Bool, true, false, ℕ, eqb, length, Float, Option}
use Rattle.std.proofs.Math.Path.{refl, ap}
use Rattle.std.proofs.Common.{sym, ◌∙◌, subst, eqb-true}
use mathlib.Core.List.{List, [], ◌∷◌}
use Rattle.std.proofs.lemmas.Bool.{eqb-false}
use Rattle.std.specs.Float.Ieee.{nan, is_nan}
use Rattle.steps.specs.Num.{at}
use Rattle.steps.specs.Cond.{either}
use Rattle.support.specs.Word.{has}
use Rattle.rule.specs.Rule.{Problem, State, going, done, latest, support, rounds, reported, last_look, last_stop, finish, fit, past, refitted, coeffs_of}
use Rattle.rule.specs.Dropped.{dropped}
use Rattle.rule.specs.Endings.{Zeroed as LeavesZeros}
use Rattle.rule.proofs.Endings.{unzeroed}
use Rattle.rule.specs.declared.Stop.{Stop}
use Rattle.rule.specs.declared.Stop.TheVariants as S
use Rattle.rule.specs.declared.Look.{Look}
use Rattle.why.specs.Cause.{by_value, undropped, caused, cause}
use Rattle.why.specs.Truth.{InEach, LastAt, Truly}
use Rattle.why.specs.Sharp.{Sharp, clash, nan_is, finds, kept_found}
use Rattle.why.specs.Seen.{Seen}
use Rattle.why.proofs.Looks.{seen}

-- a term of every refit is in the last one, if there was any
in_latest : (j : ℕ) (ws : List ℕ) → length ws ≢ 0 → InEach j ws → has (latest ws) j ≡ true
in_latest j [] some i = absurd (some refl)
in_latest j (w ∷ ws) some i = i.0

-- the last value counts where the stop leaves other numbers than zeros
pub by_stop : (keeps : Float → Bool) (t : Stop) (n : ℕ) (c : Float) → (LeavesZeros t → ⊥) → undropped keeps t n c ≡ by_value keeps c
unfolding undropped
by_stop keeps S.NoData n c z = absurd (z tt)
by_stop keeps (S.FirstRefused t) n c z = absurd (z tt)
by_stop keeps S.Empty n c z = refl
by_stop keeps (S.RefitRefused t) n c z = absurd (z tt)
by_stop keeps S.Settled n c z = refl
by_stop keeps S.OutOfRounds n c z = refl

module _ {P : Problem} {j : ℕ} (sharp : Sharp P j) (limit : ℕ) where
  -- by the last value: kept where a look keeps it, and otherwise as the last pass left it
  by_last_value : (cs : List Float) → coeffs_of (rounds P limit) ≡ cs → (P.keeps j (at cs j) ≡ false → (c : Float) → c ≡ at cs j → LastAt P limit j c)
      → Truly P limit j (by_value (P.keeps j) (at cs j))
  unfolding by_value
  by_last_value cs q last =
      let c = at cs j in
      let A = Truly P limit j in
      either A (P.keeps j c) _ _ (λ k. kept_found sharp limit ∙ ap (λ (x : List Float). has (support P x) j) q ∙ finds sharp cs ∙ k)
      (λ k. either A (is_nan c) _ _ (λ n. last k nan (nan_is c n)) (λ n. (last k c refl, sharp.rest_cleared c k n)))

  -- rounds used up: a term of every refit that the last look does not find left OutOfRounds
  out_of_rounds : (cs : List Float) (ws : List ℕ) → InEach j ws → has (support P cs) j ≡ false → last_stop P cs ws ≡ S.OutOfRounds
  unfolding last_look
  out_of_rounds cs ws i u =
      let A : Stop → Type 0 = λ t. t ≡ S.OutOfRounds in
      let w = support P cs in
      either A (eqb (length ws) 0) _ _ (λ z. refl)
      (λ z. either A (eqb w (latest ws)) _ _
      (λ t. absurd (clash (ap (λ (v : ℕ). has v j) (eqb-true w (latest ws) t) ∙ in_latest j ws (eqb-false _ 0 z) i) u)) (λ t. refl))

  -- the given cause is true
  pub true_cause : Truly P limit j (cause P limit j)
  unfolding cause caused undropped fit finish reported refitted
  true_cause = go (dropped P j limit) (rounds P limit) refl (seen sharp limit)
    where
      stop_is : {s : State} → rounds P limit ≡ s → (fit P limit).stop ≡ (finish P s).stop
      stop_is e = ap (λ s. (finish P s).stop) e

      go : (d : Option Look) (s : State) → rounds P limit ≡ s → Seen P j limit d s
          → Truly P limit j (caused (P.keeps j) d (finish P s).stop (finish P s).refits (at (coeffs_of s) j))
      go (Some d) s e i = i.0
      go None (going cs ws) e i =
          subst (Truly P limit j) (sym (by_stop _ (last_stop P cs ws) _ _ (unzeroed (length ws) (latest ws) (support P cs))))
          (by_last_value cs (ap coeffs_of e) (λ k c v. record {
            coeffs = cs;
            stop = stop_is e ∙ out_of_rounds cs ws i (finds sharp cs ∙ k);
            over = e ∙ ap (λ s. going cs (past s)) (sym e);
            in_each = subst (λ s. InEach j (past s)) (sym e) i;
            value = v;
          }))
      go None (done S.NoData cs ws) e i = stop_is e
      go None (done (S.FirstRefused t) cs ws) e i = record { term = t; stop = stop_is e }
      go None (done S.Empty cs ws) e i = absurd i
      go None (done (S.RefitRefused t) cs ws) e i =
          record { term = t; stop = stop_is e; in_each = subst (λ s. InEach j (past s)) (sym e) i; number = ap (λ s. length (past s)) (sym e) }
      go None (done S.Settled cs ws) e i = by_last_value cs (ap coeffs_of e) (λ k. absurd (clash i.1 (finds sharp cs ∙ k)))
      go None (done S.OutOfRounds cs ws) e i = absurd i
