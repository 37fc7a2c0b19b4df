-- What a fit keeps in its workspace, and a solve from it. Assumes nothing.
use mathlib.Core.Path.{◌≡◌, ◌∙◌}
use mathlib.Core.List.{List, ◌++◌}
use Prim.Native.Nat.{ℕ, ◌-◌, ◌^◌, ◌≤◌, ◌<◌}
use native.Mathlib.Omega.{arith}
use lib.ListN.{length, take, drop}
use lib.Seq.{length-take-le, take-take, take_at, take-append-le}
use lib.Ieee.{Float}
use Rattle.steps.specs.Num.{at}
use Rattle.steps.specs.Space.{with_part}
use Rattle.sums.specs.Products.{gram, moment}
use Rattle.sums.specs.Inner.{damps}
use Rattle.sums.specs.declared.inner.Damping.{Damping}
use Rattle.sums.specs.Kept.{kept_size, kept_sums}
use Rattle.rule.specs.Fits.{problem, matrix_of}
use Rattle.rule.specs.Givens.{problem_given}
use Rattle.rule.specs.Kept.{from_kept, from_head, kept_solves}
use Rattle.rule.specs.declared.Task.{Task}
use Rattle.rule.specs.declared.given.Given.{Given}
use Rattle.rule.specs.declared.Solver.TheVariants.{Qr}
use Rattle.refit.specs.Parts.{Kept}
use Rattle.refit.proofs.Methods.{FromSums}

-- a solve is lent the first e numbers of a workspace, and leaves x there
module _ (n e : ℕ) (ws : List Float) (in_it : kept_size n ≤ e) (fits : e ≤ length ws) where
  lent : take (kept_size n) (take (e - 0) ws) ≡ take (kept_size n) ws
  lent = take-take (kept_size n) (e - 0) ws (omega arith)

  pub from_lent : (damp : Float → Float) (w : ℕ) → w < 2 ^ n → from_kept damp n (take (e - 0) ws) w ≡ from_kept damp n ws w
  from_lent damp w b = from_head damp n (take (e - 0) ws) ws w b lent

  pub head_left : (x : List Float) → length x ≡ length (take (e - 0) ws) → take (kept_size n) x ≡ take (kept_size n) (take (e - 0) ws) → take (kept_size n) (with_part 0 e x ws) ≡ take (kept_size n) ws
  unfolding with_part
  head_left x long same =
      let room : kept_size n ≤ length x = omega (arith, long, length-take-le (e - 0) ws (omega arith)) in
      take-append-le (kept_size n) x (drop (e - 0) ws) room ∙ same ∙ lent

-- what the first pass left is kept
module _ (g : Given) where
  abbrev task : Task
  task = g.task

  pub kept_now : (sums rest : List Float) → length sums ≡ kept_size task.cols
      → sums ≡ kept_sums task.cols (gram (matrix_of task g.theta.now) task.rows) (moment (matrix_of task g.theta.now) (at g.target.now) task.rows) → Kept g (sums ++ rest)
  kept_now sums rest long e = record { sums = λ not. take_at sums rest (kept_size task.cols) long ∙ e }

  pub kept_on : (ws ws' : List Float) → take (kept_size task.cols) ws' ≡ take (kept_size task.cols) ws → Kept g ws → Kept g ws'
  kept_on ws ws' e k = record { sums = λ not. e ∙ k.sums not }

  -- and a solve from it, by a solver that solves so, is that of the support's columns
  pub kept_is : {d : Damping} → FromSums task.solver task.setup.lambda d → (ws : List Float) (w : ℕ) → Kept g ws → w < 2 ^ task.cols
      → from_kept (damps d) task.cols ws w ≡ (problem_given g).solve w
  unfolding problem
  kept_is {d} from ws w k b =
      rw (from.solve (at g.target.now) task.rows) (kept_solves (damps d) task.cols (matrix_of task g.theta.now) (at g.target.now) task.rows ws w b (k.sums from.not_qr))

  -- by least squares nothing is kept
  pub none_kept : (ws : List Float) → task.solver ≡ Qr → Kept g ws
  none_kept ws is = record { sums = λ not. absurd (not is) }
