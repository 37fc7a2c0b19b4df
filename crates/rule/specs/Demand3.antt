-- Demand 3, over calls of `strlsq`, by any solver and layout, whose contract is `FitCall`: what two calls on the same data give, and how far one goes, is shown in proofs/Demand3.
-- A call fits if it answers a report, and it does so exactly where no refusal applies. Assumes nothing.
use Rattle.std.specs.Prelude.{◌≡◌, List, ℕ, ◌≤◌, length, Float, Result}
use Rattle.rule.specs.declared.Task.{Task}
use Rattle.rule.specs.declared.Report.{Report}
use Rattle.refusal.specs.declared.Refusal.{Refusal}
use Rattle.rule.specs.Rule.{refitted}
use Rattle.rule.specs.Tasks.{with_limit}
use Rattle.rule.specs.Fits.{problem_of}
use Rattle.rule.specs.Calls.{FitCall}
use Rattle.rule.specs.Stable.{Falling}

-- what the report of n columns within a limit of rounds says of the refits, whose supports are ws, the newest first
pub record Few (ws : List ℕ) (n limit : ℕ) (report : Report) : Type 0 where
  -- it counts them
  pub counted : report.refits ≡ length ws
  -- each refit after the first uses a strict subset of the columns of the refit before
  pub falling : Falling ws
  -- refits never exceed the column count or the round limit
  pub few_cols : report.refits ≤ n
  pub few_rounds : report.refits ≤ limit

-- the same task, but for its limit of rounds, and the same data throughout
module _ (task : Task) (theta target : List Float) where
  -- a call at a limit of rounds: the coefficients before and after, the workspace before and after, and the answer
  abbrev pub Call : ℕ → List Float → List Float → List Float → List Float → Result Report Refusal → Type 0
  Call limit cs cs' w w' answer = FitCall (with_limit task limit) theta target cs cs' w w' answer

  -- the supports of the refits that the rule makes within a limit, the newest first
  abbrev pub refits_of : ℕ → List ℕ
  refits_of limit = refitted (problem_of task theta target) limit
