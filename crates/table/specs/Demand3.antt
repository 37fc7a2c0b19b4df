-- Demand 3 at work: F1 as a call at a limit of two rounds, and so every call of it at a larger permitted limit. Assumes nothing.
use Rattle.std.specs.Prelude.{Ok, ◌≡◌, refl, List, [], ◌∷◌, ℕ, ◌≤◌, length, Float, Result}
use Rattle.steps.specs.Num.{+zero}
use Rattle.steps.specs.Space.{cleared}
use Rattle.rule.specs.Rule.{zeros}
use Rattle.rule.specs.Tasks.{setup_of, task_of}
use Rattle.rule.specs.Sizes.{fit_need, limits, lengths, fit_sizes}
use Rattle.rule.specs.Calls.{FitCall}
use Rattle.rule.specs.declared.Task.{Task}
use Rattle.rule.specs.Demand3.{Few, refits_of}
use Rattle.rule.proofs.Demand3.{calls_stable, calls_bounded}
use Rattle.rule.specs.declared.Solver.TheVariants.{Normal}
use Rattle.rule.specs.declared.Stop.TheVariants.{Settled}
use Rattle.rule.specs.declared.Report.{Report}
use Rattle.refusal.specs.declared.Refusal.{Refusal}
use Rattle.table.specs.Solvers.{three}
use Rattle.table.specs.Fits.{fits, half, sixteenth, theta1, target1}

-- Settled, 1 refit, word 1, error 1/16
abbrev pub settled : Report
settled = record { stop = Settled; refits = 1; kept = record { 0 = 1 }; error = sixteenth }

-- what F1 asks for, within any limit of rounds
abbrev pub task1 : ℕ → Task
task1 limit = task_of Normal 2 2 (setup_of half +zero limit)

-- F1 at a limit of 2, its slices zeros before
pub F1_call : FitCall (task1 2) theta1 target1 (zeros 2) (three ∷ +zero ∷ []) (zeros 16) (zeros 16) (Ok settled)
unfolding fits fit_sizes limits lengths fit_need cleared
F1_call = record { sizes = (Ok tt); judged = refl; answer = refl; coeffs = refl; space = refl }

-- every larger permitted limit gives the same report and coefficients, whatever the slices held
pub F1_stable : {m : ℕ} {ds ds' v v' : List Float} {answer : Result Report Refusal} → 2 ≤ m → m ≤ 1000 → length ds ≡ 2 → 16 ≤ length v
    → FitCall (task1 m) theta1 target1 ds ds' v v' answer → (answer ≡ Ok settled) × (ds' ≡ three ∷ +zero ∷ [])
unfolding fit_need
F1_stable = calls_stable (task1 2) theta1 target1 F1_call (λ e. cc)

-- its threshold is above zero: the report counts the refits, and they are few
pub F1_bounded : Few (refits_of (task1 2) theta1 target1 2) 2 2 settled
unfolding fits
F1_bounded = calls_bounded (task1 2) theta1 target1 tt F1_call
