-- The first refusal that applies to a fit, and what holds exactly where none does. Assumes nothing.
use Rattle.std.specs.Prelude.{◌≡◌, not, List, ℕ, ◌+◌, ◌*◌, ◌≤◌, ltb, eqb, length, Float, Ok}
use Rattle.std.proofs.Common.{◌∙◌}
use borrow.Author.Tests.{ltb-false, eqb-true, not-false, le-ltb, eq-eqb}
use Rattle.refusal.specs.Answers.{Answer, refuse_if, and_then}
use Rattle.refusal.specs.Ladder.{not_refused, both_done}
use Rattle.refusal.specs.declared.Refusal.TheVariants.{ManyColumns, ManyRows, ManyRounds, MatrixLength, TargetLength, OutputLength, WorkspaceShort}
use Rattle.rule.specs.declared.Solver.{Solver}
use Rattle.rule.specs.declared.Solver.TheVariants.{Normal, Qr, Marquardt}
use Rattle.rule.specs.declared.Task.{Task}

-- the workspace of a fit, in numbers: by the normal equations 3·c² + 2·c at any row count
abbrev pub normal_need : ℕ → ℕ
normal_need c = 3 * (c * c) + 2 * c

-- `strlsq` and `strlsq_marquardt` that; `strlsq_qr` 2·(r+c)·c + 3·(r+c) + 3·c
unfoldable pub fit_need : Solver → ℕ → ℕ → ℕ
fit_need Normal r c = normal_need c
fit_need Qr r c = 2 * ((r + c) * c) + 3 * (r + c) + 3 * c
fit_need Marquardt r c = normal_need c

abbrev pub task_need : Task → ℕ
task_need task = fit_need task.solver task.rows task.cols

-- 1, 2, 3: more columns or rows than these, or more than 1,000 rounds
unfoldable pub limits : ℕ → ℕ → Task → Answer
limits cols rows task =
    refuse_if (ltb cols task.cols) ManyColumns (refuse_if (ltb rows task.rows) ManyRows
    (refuse_if (ltb 1000 task.setup.max_iter) ManyRounds
    (Ok tt)))

-- 4, 5, 6, 7: theta, target or coefficients of another length than the task's sizes say, or a workspace too short
unfoldable pub lengths : Task → ℕ → ℕ → ℕ → ℕ → Answer
lengths task theta target coeffs space =
    refuse_if (not (eqb theta (task.rows * task.cols))) MatrixLength
    (refuse_if (not (eqb target task.rows)) TargetLength
    (refuse_if (not (eqb coeffs task.cols)) OutputLength
    (refuse_if (ltb space (task_need task)) WorkspaceShort
    (Ok tt))))

-- the limits, then the lengths: a later order's refusals stand between
unfoldable pub fit_sizes : Task → ℕ → ℕ → ℕ → ℕ → Answer
fit_sizes task theta target coeffs space = and_then (limits 64 4096 task) (lengths task theta target coeffs space)

-- ---- what holds where nothing is refused

-- within the limits
pub record Limited (cols rows : ℕ) (task : Task) : Type 0 where
  pub few_cols : task.cols ≤ cols
  pub few_rows : task.rows ≤ rows
  pub few_rounds : task.setup.max_iter ≤ 1000

-- theta and target as the task's sizes say
pub record Sized (task : Task) (theta target : List Float) : Type 0 where
  pub limited : Limited 64 4096 task
  pub theta_long : length theta ≡ task.rows * task.cols
  pub target_long : length target ≡ task.rows

-- what a fit, and each call inside it, may rely on
pub record Ready (task : Task) (theta target coeffs space : List Float) : Type 0 where
  pub sized : Sized task theta target
  pub coeffs_long : length coeffs ≡ task.cols
  pub space_long : task_need task ≤ length space

-- the rest of it: what is lent to write in, a coefficient a column and a workspace long enough
pub record Lent (task : Task) (coeffs space : List Float) : Type 0 where
  pub coeffs_long : length coeffs ≡ task.cols
  pub space_long : task_need task ≤ length space

module _ {cols rows : ℕ} {task : Task} where
  pub limits_kept : Limited cols rows task → limits cols rows task ≡ Ok tt
  unfolding limits
  limits_kept l = simp (le-ltb cols task.cols l.few_cols, le-ltb rows task.rows l.few_rows, le-ltb 1000 task.setup.max_iter l.few_rounds)

  pub limits_hold : limits cols rows task ≡ Ok tt → Limited cols rows task
  unfolding limits
  limits_hold e =
      let few = not_refused (ltb cols task.cols) ManyColumns _ e in
      let short = not_refused (ltb rows task.rows) ManyRows _ few.1 in
      let brief = not_refused (ltb 1000 task.setup.max_iter) ManyRounds _ short.1 in
      record { few_cols = ltb-false _ _ few.0; few_rows = ltb-false _ _ short.0; few_rounds = ltb-false _ _ brief.0 }

module _ {task : Task} {theta target coeffs space : List Float} where
  -- no refusal applies to what is ready
  pub accepted : Ready task theta target coeffs space → fit_sizes task (length theta) (length target) (length coeffs) (length space) ≡ Ok tt
  unfolding fit_sizes lengths
  accepted r =
      let fine : lengths task (length theta) (length target) (length coeffs) (length space) ≡ Ok tt
      = simp (
        eq-eqb (length theta) (task.rows * task.cols) r.sized.theta_long,
        eq-eqb (length target) task.rows r.sized.target_long,
        eq-eqb (length coeffs) task.cols r.coeffs_long,
        le-ltb (length space) (task_need task) r.space_long,
      ) in
      rw (limits_kept r.sized.limited) fine

  -- and some refusal to all else
  pub ready : fit_sizes task (length theta) (length target) (length coeffs) (length space) ≡ Ok tt → Ready task theta target coeffs space
  unfolding fit_sizes lengths
  ready e =
      let both = both_done (limits 64 4096 task) _ e in
      let matrix = not_refused (not (eqb (length theta) (task.rows * task.cols))) MatrixLength _ both.1 in
      let right = not_refused (not (eqb (length target) task.rows)) TargetLength _ matrix.1 in
      let out = not_refused (not (eqb (length coeffs) task.cols)) OutputLength _ right.1 in
      let room = not_refused (ltb (length space) (task_need task)) WorkspaceShort _ out.1 in
      record {
        sized = record { limited = limits_hold both.0; theta_long = eqb-true _ _ (not-false _ matrix.0); target_long = eqb-true _ _ (not-false _ right.0) };
        coeffs_long = eqb-true _ _ (not-false _ out.0);
        space_long = ltb-false _ _ room.0;
      }

  -- the two parts of what is ready
  pub lent_ready : Sized task theta target → Lent task coeffs space → Ready task theta target coeffs space
  lent_ready s l = record { sized = s; coeffs_long = l.coeffs_long; space_long = l.space_long }

  pub ready_lent : Ready task theta target coeffs space → Lent task coeffs space
  ready_lent r = record { coeffs_long = r.coeffs_long; space_long = r.space_long }

  -- other numbers of the same count are as good
  pub still : {cs ws : List Float} → Ready task theta target coeffs space → length cs ≡ length coeffs → length ws ≡ length space → Ready task theta target cs ws
  still r e q = record { sized = r.sized; coeffs_long = e ∙ r.coeffs_long; space_long = rw q r.space_long }
