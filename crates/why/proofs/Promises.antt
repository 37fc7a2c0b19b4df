-- What is promised of the cause, for all three fits at every threshold above zero: it is the true one, and no other is true. Assumes nothing.
use Rattle.std.specs.Prelude.{◌≡◌, ◌↔◌, ℕ, ◌<◌, Float}
use Rattle.std.proofs.Common.{sym, ◌∙◌, subst}
use Rattle.std.proofs.Math.Path.{ap}
use Rattle.std.proofs.Math.Bool.{true, false}
use borrow.Author.Tests.{not-true, not-false}
use Rattle.std.proofs.Math.Dec.{T}
use Rattle.std.specs.Float.Ieee.{lt, le, is_nan}
use Rattle.steps.specs.Num.{+zero, Entry}
use Rattle.float64.specs.Root.{abs_of}
use Rattle.support.specs.Word.{has}
use Rattle.rule.specs.Rule.{Problem}
use Rattle.rule.specs.Fits.{keeps, clears, problem, problem_by, fit_by}
use Rattle.rule.specs.Stable.{ZeroKept}
use Rattle.rule.specs.Threshold.{not_below, zero_below, nan_below, nan_not_below}
use Rattle.rule.specs.declared.Task.{Task}
use Rattle.why.specs.declared.Cause.{Cause}
use Rattle.why.specs.declared.Cause.TheVariants.{Kept}
use Rattle.why.specs.Cause.{cause}
use Rattle.why.specs.Truth.{Truly}
use Rattle.why.specs.Sharp.{Sharp, contrary, nan_is}
use Rattle.why.proofs.TrueCause.{true_cause}
use Rattle.why.proofs.OnlyCause.{only_cause, kept_cause}

-- of any task, matrix and target, a threshold above zero, and a term
module _ (task : Task) (e : Entry) (t : ℕ → Float) (above_zero : T (lt +zero task.setup.threshold)) (j : ℕ) (below : j < task.cols) where
  abbrev P : Problem
  P = problem_by task e t

  abbrev threshold : Float
  threshold = task.setup.threshold

  abbrev limit : ℕ
  limit = task.setup.max_iter

  -- what the causes rest on
  sharp : Sharp P j
  unfolding problem keeps clears ZeroKept
  sharp = record {
    below = below;
    zero_kept = λ i c k. absurd (subst T (zero_below threshold above_zero) k);
    zero_out = zero_below threshold above_zero;
    nan_out = nan_below threshold;
    nan_spared = nan_not_below threshold;
    kept_spared = λ c k. not-true _ (sym (not_below threshold c above_zero (number c k)) ∙ k);
    rest_cleared = λ c k n. not-false _ (sym (not_below threshold c above_zero n) ∙ k);
  }
    where
      number : (c : Float) → le threshold (abs_of c) ≡ true → is_nan c ≡ false
      number c = contrary _ _ (λ n. ap (λ x. le threshold (abs_of x)) (sym (nan_is c n)) ∙ nan_below threshold)

  -- the given cause is true
  pub why_true : Truly P limit j (cause P limit j)
  why_true = true_cause sharp limit

  -- and no other is
  pub why_only : (c : Cause) → Truly P limit j c → c ≡ cause P limit j
  why_only = only_cause sharp limit

  -- kept is the cause exactly if the report's kept word has the term
  pub why_kept : (cause P limit j ≡ Kept) ↔ (has (fit_by task e t).kept j ≡ true)
  unfolding fit_by
  why_kept = kept_cause sharp limit
