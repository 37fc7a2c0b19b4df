-- The refit count, the kept word and the refused term of an accepted input are within their digits. Assumes nothing.
use Rattle.std.specs.Prelude.{List, ℕ, ◌^◌, ◌≤◌, ◌<◌}
use Rattle.std.proofs.Math.Nat.{pow-le-pow_right, lt_of_le_of_lt, lt_of_lt_of_le}
use Rattle.std.proofs.Common.{arith, lit<}
use Rattle.rule.specs.Codes.{stop_term}
use Rattle.rule.specs.Refuses.{RefusedAt}
use Rattle.rule.proofs.Promises.{refits_at_most, kept_below, refused_term}
use Rattle.rule.specs.declared.Task.{Task}
use Rattle.rule.specs.declared.Stop.{Stop}
use Rattle.rule.specs.declared.Stop.TheVariants.{NoData, FirstRefused, Empty, RefitRefused, Settled, OutOfRounds}
use Rattle.exchange.specs.Exchange.{Accepted}
use Rattle.frames.specs.Exchange.{fit_asked}

module _ (s : List ℕ) (task : Task) (ok : Accepted s task) where
  -- at most 1,000 refits, in four digits
  pub refits_within : (fit_asked s task).refits < 16 ^ 4
  unfolding fit_asked
  refits_within = lt_of_le_of_lt (refits_at_most task _ _) (let q : task.setup.max_iter < 16 ^ 4 = omega (arith, ok.limited.few_rounds) in q)

  -- at most 16 terms, in sixteen digits
  pub kept_within : (fit_asked s task).kept < 16 ^ 16
  unfolding fit_asked
  kept_within = lt_of_lt_of_le (kept_below task _ _) (pow-le-pow_right {n = 2} (lit< tt) (let q : task.cols ≤ 64 = omega (arith, ok.limited.few_cols) in q))

  -- a term below 64, or ff: two digits
  pub term_within : stop_term (fit_asked s task).stop < 16 ^ 2
  unfolding fit_asked
  term_within = go (fit_asked s task).stop _ (refused_term task _ _ few)
    where
      few : task.cols ≤ 64
      few = omega (arith, ok.limited.few_cols)

      go : (t : Stop) (ws : List ℕ) → RefusedAt task.cols t ws → stop_term t < 16 ^ 2
      go NoData ws i = lit< tt
      go (FirstRefused t) ws i = omega (arith, i, few)
      go Empty ws i = lit< tt
      go (RefitRefused t) ws i = omega (arith, i.below, few)
      go Settled ws i = lit< tt
      go OutOfRounds ws i = lit< tt
