-- Demand 3, over calls of `strlsq`, by any solver and layout, whose contract is `FitCall`: what two calls on the same data give, and how far one goes.
-- A call fits if it answers a report, and it does so exactly where no refusal applies.
use Rattle.std.specs.Prelude.{Ok, ◌≡◌, ◌≢◌, List, ℕ, ◌+◌, ◌≤◌, T, length, Float, Result}
use Rattle.std.proofs.Math.Path.{sym, ap}
use Rattle.std.proofs.Common.{◌∙◌}
use Rattle.std.specs.Float.Ieee.{lt}
use Rattle.steps.specs.Num.{+zero, at}
use Rattle.rule.specs.declared.Task.{Task}
use Rattle.rule.specs.declared.Stop.TheVariants.{OutOfRounds}
use Rattle.rule.specs.declared.Report.{Report}
use Rattle.refusal.specs.declared.Refusal.{Refusal}
use Rattle.rule.specs.Rule.{Fit}
use Rattle.rule.specs.Tasks.{with_limit}
use Rattle.rule.specs.Fits.{keeps, clears, problem, fit_by, matrix_of, fit_of}
use Rattle.rule.specs.Sizes.{task_need, Limited, Sized, Ready}
use Rattle.rule.specs.Calls.{report_of}
use Rattle.rule.specs.Accepted.{answers, leaves, was_ready, report_is}
use Rattle.rule.specs.Demand3.{Few, Call, refits_of}
use Rattle.rule.proofs.Promises.{stable, bounds}

-- the same task, but for its limit of rounds, and the same data throughout
module _ (task : Task) (theta target : List Float) where
  -- the fit of the rule
  abbrev rule : ℕ → Fit
  rule limit = fit_of (with_limit task limit) theta target

  -- at any threshold: if a call fits and stops for any reason but running out of rounds, every call with a larger permitted limit
  -- (and slices that are long enough) gives the same report and the same coefficients, whatever its slices held
  pub calls_stable : {r m : ℕ} {report : Report} {ds v cs cs' w w' ds' v' : List Float} {answer : Result Report Refusal}
      → Call task theta target r cs cs' w w' (Ok report) → report.stop ≢ OutOfRounds
      → r ≤ m → m ≤ 1000 → length ds ≡ task.cols → task_need task ≤ length v → Call task theta target m ds ds' v v' answer
      → (answer ≡ Ok report) × (ds' ≡ cs')
  unfolding fit_by problem keeps clears matrix_of
  calls_stable {r} {m} {report} {ds} {v} one stops more permitted long room two =
      let a = was_ready one in
      let limited : Limited 64 4096 (with_limit task m) = record { few_cols = a.sized.limited.few_cols; few_rows = a.sized.limited.few_rows; few_rounds = permitted } in
      let sized : Sized (with_limit task m) theta target = record { limited = limited; theta_long = a.sized.theta_long; target_long = a.sized.target_long } in
      let b : Ready (with_limit task m) theta target ds v = record { sized = sized; coeffs_long = long; space_long = room } in
      let told : report ≡ report_of (rule r) = report_is one in
      let same : rule m ≡ rule r = (stable task (matrix_of task theta) (at target)).steady r m more (λ e. stops (ap (λ p. p.stop) told ∙ e)) in
      (answers b two ∙ ap (λ f. Ok (report_of f)) same ∙ ap Ok (sym told), leaves b two ∙ ap (λ f. f.coeffs) same ∙ sym (leaves a one))

  -- for a threshold above zero
  module _ (above : T (lt +zero task.setup.threshold)) {limit : ℕ} {cs cs' w w' : List Float} {report : Report} (call : Call task theta target limit cs cs' w w' (Ok report)) where
    -- each refit uses a strict subset of the columns of the one before, and there are no more than columns or rounds
    pub calls_bounded : Few (refits_of task theta target limit) task.cols limit report
    unfolding fit_by problem keeps clears matrix_of
    calls_bounded =
        let b = bounds task (matrix_of task theta) (at target) above in
        let count : report.refits ≡ (rule limit).refits = ap (λ p. p.refits) (report_is call) in
        record { counted = count ∙ b.counted limit; falling = b.falling limit; few_cols = rw count (b.few_cols limit); few_rounds = rw count (b.few_rounds limit) }

    -- a limit of columns plus one, or more, always finishes without running out
    pub calls_finish : task.cols + 1 ≤ limit → report.stop ≢ OutOfRounds
    unfolding fit_by problem keeps clears matrix_of
    calls_finish h e = (bounds task (matrix_of task theta) (at target) above).finishes limit h (sym (ap (λ p. p.stop) (report_is call)) ∙ e)
