-- The first refusal that applies to the question why. Assumes nothing.
use Rattle.std.specs.Prelude.{Ok, ◌≡◌, not, List, ℕ, ◌<◌, T, ltb, length, Float}
use borrow.Author.Tests.{ltb-true, not-false}
use Rattle.std.specs.Float.Ieee.{lt}
use Rattle.steps.specs.Num.{+zero}
use Rattle.refusal.specs.Answers.{refuse_if, and_then, Answer}
use Rattle.support.specs.WordLaws.{passed}
use Rattle.refusal.specs.Ladder.{not_refused, both_done}
use Rattle.refusal.specs.declared.Refusal.TheVariants.{LowThreshold, NoSuchTerm}
use Rattle.rule.specs.Sizes.{limits, lengths, fit_sizes, Ready, ready}
use Rattle.rule.specs.declared.Setup.{Setup}
use Rattle.rule.specs.declared.Task.{Task}

-- 12: a threshold that is not above zero
unfoldable pub low_threshold : Setup → Answer
low_threshold setup = refuse_if (not (lt +zero setup.threshold)) LowThreshold (Ok tt)

-- then 13: a term number that is not below n_cols
unfoldable pub asks : Task → ℕ → Answer
asks task j = and_then (low_threshold task.setup) (refuse_if (not (ltb j task.cols)) NoSuchTerm (Ok tt))

-- 12 and 13 stand behind 3: the fit's limits, what is asked, the fit's lengths
unfoldable pub why_sizes : Task → ℕ → ℕ → ℕ → ℕ → ℕ → Answer
why_sizes task j theta target coeffs space = and_then (limits 64 4096 task) (and_then (asks task j) (lengths task theta target coeffs space))

-- ---- what holds where nothing is refused

pub above_zero : (setup : Setup) → low_threshold setup ≡ Ok tt → T (lt +zero setup.threshold)
unfolding low_threshold
above_zero setup e =
    let above = lt +zero setup.threshold in
    passed (not-false above (not_refused (not above) LowThreshold (Ok tt) e).0)

module _ (task : Task) (j theta target coeffs space : ℕ) (e : why_sizes task j theta target coeffs space ≡ Ok tt) where
  limited : limits 64 4096 task ≡ Ok tt
  unfolding why_sizes
  limited = (both_done (limits 64 4096 task) _ e).0

  rest : (asks task j ≡ Ok tt) × (lengths task theta target coeffs space ≡ Ok tt)
  unfolding why_sizes
  rest = both_done (asks task j) _ (both_done (limits 64 4096 task) _ e).1

  -- the threshold is above zero, and the term is one of the columns
  pub why_asked : T (lt +zero task.setup.threshold) × (j < task.cols)
  unfolding asks
  why_asked =
      let both = both_done (low_threshold task.setup) _ rest.0 in
      let there = not_refused (not (ltb j task.cols)) NoSuchTerm (Ok tt) both.1 in
      (above_zero task.setup both.0, ltb-true j task.cols (not-false _ there.0))

-- no fit refuses it
pub why_ready : (task : Task) (j : ℕ) {theta target coeffs space : List Float}
    → why_sizes task j (length theta) (length target) (length coeffs) (length space) ≡ Ok tt → Ready task theta target coeffs space
unfolding fit_sizes
why_ready task j e = ready (rw (limited task j _ _ _ _ e) (rest task j _ _ _ _ e).1)
