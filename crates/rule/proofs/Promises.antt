-- What is promised of all three fits: each theorem holds for every solver, and was proved once over the problem.
use Rattle.std.specs.Prelude.{◌≡◌, ◌≢◌, ◌&&◌, List, ℕ, suc, ◌^◌, ◌≤◌, ◌<◌, ltb, Float}
use Rattle.std.proofs.Common.{subst}
use Rattle.std.specs.Int.Count.{ones}
use Rattle.std.proofs.Math.Dec.{T}
use Rattle.std.specs.Float.{nan, binary64}
use Rattle.std.specs.Float.Ieee.{fits, lt, le}
use Rattle.steps.specs.Num.{+zero, at, Entry}
use Rattle.float64.specs.Root.{abs_of}
use Rattle.support.specs.Word.{has}
use Rattle.refusal.specs.Answers.{solved}
use Rattle.places.specs.Columns.{columns}
use Rattle.rule.specs.declared.Setup.{Setup}
use Rattle.rule.specs.declared.Task.{Task}
use Rattle.rule.specs.declared.Stop.TheVariants.{Settled, OutOfRounds}
use Rattle.rule.specs.Rule.{Problem, Fit, done, zeros, rounds, refitted, coeffs_of}
use Rattle.rule.specs.Fits.{keeps, problem, problem_by, fit_by}
use Rattle.rule.specs.Threshold.{zero_below, nan_below}
use Rattle.rule.specs.LastLook.{SettlesNext}
use Rattle.rule.specs.Refuses.{RefusedAt}
use Rattle.rule.specs.Stable.{Steady, Bounded, ZeroKept}
use Rattle.rule.specs.Endings.{Zeroed}
use Rattle.rule.specs.Rounded.{Rounded, in_format}
use Rattle.rule.specs.Values.{solved_column}
use Rattle.rule.proofs.LastLook.{settled_next, settled_before}
use Rattle.rule.proofs.Refuses.{columned, refused_at}
use Rattle.rule.proofs.Stable.{steady, refits_few}
use Rattle.rule.proofs.Shrinking.{bounded}
use Rattle.rule.proofs.Endings.{ends_with_zeros, no_nan, kept_lt, kept_rule}
use Rattle.rule.proofs.Made.{made_coeffs, made_rounds}

-- of any task, matrix and target
module _ (task : Task) (e : Entry) (t : ℕ → Float) where
  abbrev setup : Setup
  setup = task.setup

  -- the problem that the fit is the rule of, and the fit within the task's rounds
  abbrev P : Problem
  P = problem_by task e t

  abbrev f : Fit
  f = fit_by task e t

  -- demand 3, at any threshold
  pub stable : Steady P
  stable = steady P

  -- demand 3, for a threshold above zero
  pub bounds : T (lt +zero setup.threshold) → Bounded P
  unfolding problem ZeroKept keeps
  bounds h = bounded P (λ j c k. absurd (subst T (zero_below setup.threshold h) k))

  -- a fit that is Settled, by the look of a round or by the last look, has settled after one round more, with the same report
  pub settles_next : f.stop ≡ Settled → SettlesNext P setup.max_iter
  unfolding fit_by
  settles_next = settled_next P setup.max_iter

  -- and one that would have settled in the round after the last is Settled by the last look
  pub settles_before : {cs : List Float} {ws : List ℕ} → rounds P (suc setup.max_iter) ≡ done Settled cs ws → f.stop ≡ Settled
  unfolding fit_by
  settles_before = settled_before P setup.max_iter

  -- a refused solve ends with zeros, and so do no data and an empty support
  pub zeros_left : Zeroed f.stop → f.coeffs ≡ zeros task.cols
  unfolding fit_by problem
  zeros_left z = ends_with_zeros P setup.max_iter z

  -- only OutOfRounds can leave a NaN among the coefficients
  pub numbers_left : f.stop ≢ OutOfRounds → (j : ℕ) → j < task.cols → at f.coeffs j ≢ nan
  unfolding fit_by problem keeps
  numbers_left k j l = no_nan P j (nan_below setup.threshold) setup.max_iter k l

  -- a solve that refused did so at a term of theta, and after a refit at one of the support that was refitted
  pub refused_term : task.cols ≤ 64 → RefusedAt task.cols f.stop (refitted P setup.max_iter)
  unfolding fit_by problem
  refused_term few = refused_at P (columned task e t) few setup.max_iter

  -- never more refits than rounds, at any threshold
  pub refits_at_most : f.refits ≤ setup.max_iter
  unfolding fit_by
  refits_at_most = refits_few P setup.max_iter

  -- the kept word is of the task's terms
  pub kept_below : f.kept < 2 ^ task.cols
  unfolding fit_by problem
  kept_below = kept_lt P setup.max_iter

  -- bit j is one exactly if j is below n_cols and the final |c(j)| is at least the threshold
  pub kept_word : (j : ℕ) → has f.kept j ≡ (ltb j task.cols && le setup.threshold (abs_of (at f.coeffs j)))
  unfolding fit_by problem keeps
  kept_word j = kept_rule P setup.max_iter j

  -- what holds of the target's numbers and of every result of an operation holds of each coefficient
  module _ {Q : Float → Type 0} (made : Rounded Q) (h : (i : ℕ) → Q (t i)) where
    whole_made : (vs : List Float) → P.whole ≡ solved vs → (j : ℕ) → Q (at vs j)
    unfolding problem
    whole_made vs q = (solved_column made task.solver setup.lambda t task.rows task.cols e vs h q).each

    part_made : (w : ℕ) (vs : List Float) → P.solve w ≡ solved vs → (j : ℕ) → Q (at vs j)
    unfolding problem
    part_made w vs q = (solved_column made task.solver setup.lambda t task.rows (ones w) (columns task.cols w e) vs h q).each

    pub coefficients_made : (j : ℕ) → Q (at f.coeffs j)
    unfolding fit_by
    coefficients_made = made_coeffs P made whole_made part_made setup.max_iter

    -- and of each that a look sees, and the last pass
    pub looked_made : (r j : ℕ) → Q (at (coeffs_of (rounds P r)) j)
    looked_made = made_rounds P made whole_made part_made

  -- so each is a binary64 where the target's numbers are, whatever theta, threshold and lambda hold
  pub coefficients_fit : ((i : ℕ) → T (fits binary64 (t i))) → (j : ℕ) → T (fits binary64 (at f.coeffs j))
  coefficients_fit = coefficients_made in_format
