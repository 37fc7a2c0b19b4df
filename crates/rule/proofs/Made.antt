-- What holds of +0.0 and of every value that a solve gives holds of every coefficient after each round, and of the fit. Once over the problem.
use Rattle.std.specs.Prelude.{◌≡◌, List, ℕ, Float}
use Rattle.steps.specs.Num.{+zero, at}
use Rattle.steps.specs.Cond.{either}
use Rattle.steps.specs.Table.{tab_replicate}
use Rattle.refusal.specs.Answers.{solved}
use Rattle.support.specs.Word.{has, place}
use Rattle.rule.specs.Rule.{Problem, State, going, done, zeros, support, scatter, refit, first, pruned, rounds, reported, fit, coeffs_of}
use Rattle.rule.specs.Course.{Course}
use Rattle.rule.specs.Rounded.{Rounded, tab_column}
use Rattle.rule.proofs.Course.{after_rounds, of_fit}

-- Q of each number of a list
abbrev Each : (Float → Type 0) → List Float → Type 0
Each Q cs = (i : ℕ) → Q (at cs i)

module _ (P : Problem) {Q : Float → Type 0} (made : Rounded Q) where
  zeros_each : (n : ℕ) → Each Q (zeros n)
  zeros_each n = rw (← tab_replicate n +zero) (tab_column made n (λ j. +zero) (λ j. made.nought)).each

  scatter_each : (w : ℕ) (vs : List Float) → Each Q vs → Each Q (scatter P.cols w vs)
  unfolding scatter
  scatter_each w vs h = (tab_column made P.cols _ (λ j. either Q (has w j) (at vs (place w j)) +zero (λ t. h (place w j)) (λ t. made.nought))).each

  pruned_each : (cs : List Float) → Each Q cs → Each Q (pruned P cs)
  unfolding pruned
  pruned_each cs h = (tab_column made P.cols _ (λ j. either Q (P.clears j (at cs j)) +zero (at cs j) (λ t. made.nought) (λ t. h j))).each

  module _ (whole : (vs : List Float) → P.whole ≡ solved vs → Each Q vs) (part : (w : ℕ) (vs : List Float) → P.solve w ≡ solved vs → Each Q vs) where
    -- of the coefficients after each round
    Now : State → Type 0
    Now (going cs ws) = Each Q cs
    Now (done t cs ws) = Each Q cs

    course : Course P (λ r. Now)
    unfolding Now first refit
    course = record {
      nothing = λ e. zeros_each P.cols;
      refused_first = λ e c q. zeros_each P.cols;
      begins = λ e vs q. whole vs q;
      rests = λ r t cs ws i. i;
      empties = λ r cs ws i. zeros_each P.cols;
      settles = λ r cs ws i z e. i;
      refused_later = λ r cs ws i z l c q. zeros_each P.cols;
      refits = λ r cs ws i z l vs q. scatter_each (support P cs) vs (part (support P cs) vs q);
    }

    pub made_coeffs : (r : ℕ) → Each Q (fit P r).coeffs
    unfolding reported Now
    made_coeffs r = of_fit P course (λ f. Each Q f.coeffs) r (λ cs ws i. pruned_each cs i) (λ t cs ws i. pruned_each cs i)

    pub made_rounds : (r : ℕ) → Each Q (coeffs_of (rounds P r))
    unfolding Now
    made_rounds r = go (rounds P r) (after_rounds P course r)
      where
        go : (s : State) → Now s → Each Q (coeffs_of s)
        go (going cs ws) i = i
        go (done t cs ws) i = i
