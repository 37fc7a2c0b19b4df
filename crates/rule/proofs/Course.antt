-- What holds at the start of a fit and is kept by each thing that can happen to it holds after every round, and so of the fit.
use Rattle.std.specs.Prelude.{◌≡◌, refl, ◌≢◌, List, [], eqb, Float}
use Rattle.std.proofs.Math.Bool.{false}
use Prim.Native.Nat.{ℕ, zero, suc}
use Rattle.std.proofs.Common.{eqb-true}
use Rattle.std.proofs.lemmas.Bool.{eqb-false}
use Rattle.steps.specs.Cond.{either}
use Rattle.refusal.specs.Answers.{Solution, solved, refused}
use Rattle.rule.specs.declared.Stop.{Stop}
use Rattle.rule.specs.Rule.{Problem, State, going, done, latest, support, refit, look, round, first, start, rounds, reported, last_stop, finish, Fit, fit}
use Rattle.rule.specs.Course.{lacking, Course}

module _ (P : Problem) where
  -- what holds of every report holds of the fit
  pub of_report : (G : Fit → Type 0) → ((t : Stop) (cs : List Float) (ws : List ℕ) → G (reported P t cs ws)) → (r : ℕ) → G (fit P r)
  unfolding fit finish
  of_report G h r = go (rounds P r)
    where
      go : (s : State) → G (finish P s)
      go (going cs ws) = h _ _ _
      go (done t cs ws) = h _ _ _

  module _ {I : ℕ → State → Type 0} (c : Course P I) where
    begun : I 0 (start P)
    unfolding start
    begun =
        either (I 0) (eqb P.rows 0) _ _ (λ t. c.nothing (rw t refl))
        (λ k. either (I 0) (eqb P.cols 0) _ _ (λ t. c.nothing (rw (k, t) refl)) (λ l. solving (rw (k, l) refl) P.whole refl))
      where
        solving : lacking P ≡ false → (a : Solution) → P.whole ≡ a → I 0 (first P a)
        solving l (refused k) e = c.refused_first l k e
        solving l (solved vs) e = c.begins l vs e

    step : (r : ℕ) (s : State) → I r s → I (suc r) (round P s)
    unfolding round look
    step r (done t cs ws) i = c.rests r t cs ws i
    step r (going cs ws) i =
        either (I (suc r)) (eqb w 0) _ _ (λ t. c.empties r cs ws i)
        (λ z. either (I (suc r)) (eqb w (latest ws)) _ _ (λ t. c.settles r cs ws i (eqb-false w 0 z) (eqb-true w (latest ws) t))
        (λ l. solving (eqb-false w 0 z) (eqb-false w (latest ws) l) (P.solve w) refl))
      where
        w : ℕ
        w = support P cs

        solving : w ≢ 0 → w ≢ latest ws → (a : Solution) → P.solve w ≡ a → I (suc r) (refit P ws w a)
        solving z l (refused k) e = c.refused_later r cs ws i z l k e
        solving z l (solved vs) e = c.refits r cs ws i z l vs e

    pub after_rounds : (r : ℕ) → I r (rounds P r)
    unfolding rounds
    after_rounds zero = begun
    after_rounds (suc r) = step r (rounds P r) (after_rounds r)

    -- and so of the fit: rounds used up, where the last look gives the stop, or done
    pub of_fit : (G : Fit → Type 0) (r : ℕ)
        → ((cs : List Float) (ws : List ℕ) → I r (going cs ws) → G (reported P (last_stop P cs ws) cs ws))
        → ((t : Stop) (cs : List Float) (ws : List ℕ) → I r (done t cs ws) → G (reported P t cs ws))
        → G (fit P r)
    unfolding fit finish
    of_fit G r out over = go (rounds P r) (after_rounds r)
      where
        go : (s : State) → I r s → G (finish P s)
        go (going cs ws) i = out cs ws i
        go (done t cs ws) i = over t cs ws i
