-- The last look, once the rounds are used up: it settles exactly where the next round would, with the same report.
use Rattle.std.specs.Prelude.{◌≡◌, ◌≢◌, Bool, cond, ℕ, suc, length, Float}
use Rattle.std.proofs.Math.Path.{refl, sym, ap, subst}
use Rattle.std.proofs.Common.{◌∙◌, arith}
use Rattle.std.proofs.Math.Bool.{true, false}
use mathlib.Core.List.{List, [], ◌∷◌}
use borrow.Author.Tests.{eqb-true, eqb-false, eq-eqb, ne_eqb}
use Rattle.std.proofs.Math.Dec.{T, eqb}
use Rattle.steps.specs.Cond.{either}
use Rattle.refusal.specs.Answers.{Solution, solved, refused}
use Rattle.rule.specs.declared.Stop.{Stop}
use Rattle.rule.specs.declared.Stop.TheVariants.{NoData, FirstRefused, Empty, RefitRefused, Settled, OutOfRounds}
use Rattle.rule.specs.Rule.{Problem, State, going, done, latest, support, refit, look, round, first, rounds, reported, last_look, last_stop, finish, fit, past}
use Rattle.rule.specs.Course.{Course}
use Rattle.rule.specs.LastLook.{LastSettles, SettlesNext}
use Rattle.rule.proofs.Course.{after_rounds}

-- it does so unless it leaves OutOfRounds
pub last_settles : (refits last w : ℕ) → last_look refits last w ≢ OutOfRounds → LastSettles refits last w
unfolding last_look
last_settles refits last w k = go (eqb refits 0) (eqb w last) refl refl k
  where
    go : (a b : Bool) → eqb refits 0 ≡ a → eqb w last ≡ b → cond a OutOfRounds (cond b Settled OutOfRounds) ≢ OutOfRounds → LastSettles refits last w
    go true b p q k = absurd (k refl)
    go false true p q k = record { some = eqb-false refits 0 p; same = eqb-true w last q; stop = rw (p, q) }
    go false false p q k = absurd (k refl)

-- Settled, told from the other stops
abbrev IsSettled : Stop → Type 0
IsSettled NoData = ⊥
IsSettled (FirstRefused t) = ⊥
IsSettled Empty = ⊥
IsSettled (RefitRefused t) = ⊥
IsSettled Settled = Unit {0}
IsSettled OutOfRounds = ⊥

-- a state's stop, if it has one
abbrev stop_of : State → Stop
stop_of (going cs ws) = OutOfRounds
stop_of (done t cs ws) = t

abbrev HasSettled : State → Type 0
HasSettled s = IsSettled (stop_of s)

module _ (P : Problem) where
  -- no support that was refitted is empty
  Some : List ℕ → Type 0
  Some [] = Unit {0}
  Some (w ∷ ws) = w ≢ 0

  some_refitted : Course P (λ r s. Some (past s))
  unfolding Some first refit
  some_refitted = record {
    nothing = λ e. tt;
    refused_first = λ e c q. tt;
    begins = λ e vs q. tt;
    rests = λ r t cs ws i. i;
    empties = λ r cs ws i. i;
    settles = λ r cs ws i z e. i;
    refused_later = λ r cs ws i z l c q. z;
    refits = λ r cs ws i z l vs q. z;
  }

  some_term : (cs : List Float) (ws : List ℕ) → Some ws → LastSettles (length ws) (latest ws) (support P cs) → support P cs ≢ 0
  unfolding Some
  some_term cs [] i s = absurd (s.some refl)
  some_term cs (w ∷ ws) i s = λ z. i (sym s.same ∙ z)

  -- rounds used up: cs, after the refits ws
  module _ (r : ℕ) {cs : List Float} {ws : List ℕ} (used : rounds P r ≡ going cs ws) where
    abbrev w : ℕ
    w = support P cs

    module _ (k : last_stop P cs ws ≢ OutOfRounds) where
      settled_last : LastSettles (length ws) (latest ws) w
      settled_last = last_settles (length ws) (latest ws) w k

      -- where the last look settles, the next round settles, with the coefficients and the refits as they are
      pub next_settles : rounds P (suc r) ≡ done Settled cs ws
      unfolding rounds round look
      next_settles =
          let some = some_term cs ws (rw used at (after_rounds P some_refitted r)) settled_last in
          ap (round P) used ∙ rw (ne_eqb w 0 some, eq-eqb w (latest ws) settled_last.same)

      -- and so with the same report
      pub next_same : fit P (suc r) ≡ fit P r
      unfolding fit finish
      next_same = ap (finish P) next_settles ∙ ap (λ t. reported P t cs ws) (sym settled_last.stop) ∙ sym (ap (finish P) used)

  -- a fit that is Settled, by the look of a round or by the last look, has settled after one round more, with the same report
  pub settled_next : (r : ℕ) → (fit P r).stop ≡ Settled → SettlesNext P r
  unfolding fit finish reported rounds round
  settled_next r e = go (rounds P r) refl
    where
      go : (s : State) → rounds P r ≡ s → SettlesNext P r
      go (going cs ws) u =
          let k : last_stop P cs ws ≢ OutOfRounds = λ o. subst IsSettled (sym e ∙ ap (λ s. (finish P s).stop) u ∙ o) tt in
          record { coeffs = cs; supports = ws; settles = next_settles r u k; same = next_same r u k }
      go (done t cs ws) u =
          let settled : t ≡ Settled = sym (ap (λ s. (finish P s).stop) u) ∙ e in
          record { coeffs = cs; supports = ws; settles = ap (round P) u ∙ ap (λ x. done x cs ws) settled; same = ap (finish P) (ap (round P) u ∙ sym u) }

  -- and a fit that has settled after one round more is Settled by the last look, if not before
  pub settled_before : (r : ℕ) {cs : List Float} {ws : List ℕ} → rounds P (suc r) ≡ done Settled cs ws → (fit P r).stop ≡ Settled
  unfolding fit finish reported rounds round look refit last_look
  settled_before r e = go (rounds P r) refl
    where
      refitted : (vs : List ℕ) (w : ℕ) → eqb w 0 ≡ false → eqb w (latest vs) ≡ true → last_look (length vs) (latest vs) w ≡ Settled
      refitted [] w z t = absurd (subst T (sym t ∙ z) tt)
      refitted (v ∷ vs) w z t = rw (ne_eqb (length (v ∷ vs)) 0 (λ e. omega (arith, e)), t)

      refits_on : (vs : List ℕ) (w : ℕ) (a : Solution) → HasSettled (refit P vs w a) → ⊥
      refits_on vs w (solved xs) h = h
      refits_on vs w (refused c) h = h

      go : (s : State) → rounds P r ≡ s → (fit P r).stop ≡ Settled
      go (going ds vs) u =
          let w = support P ds in
          let M : State → Type 0 = λ s. HasSettled s → last_stop P ds vs ≡ Settled in
          let seen : HasSettled (round P (going ds vs)) = subst HasSettled (sym e ∙ ap (round P) u) tt in
          ap (λ s. (finish P s).stop) u
          ∙ either M (eqb w 0) _ _ (λ t h. absurd h) (λ z. either M (eqb w (latest vs)) _ _ (λ t h. refitted vs w z t) (λ k h. absurd (refits_on vs w (P.solve w) h))) seen
      go (done t ds vs) u = ap (λ s. (finish P s).stop) u ∙ ap stop_of (sym (ap (round P) u) ∙ e)
