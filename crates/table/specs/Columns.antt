-- Cases of theta by columns, which the cases by rows let through. All by computing. Assumes nothing.
use Rattle.std.specs.Prelude.{◌≡◌, refl, List, [], ◌∷◌, Float}
use Rattle.steps.specs.Num.{+zero, one}
use Rattle.rule.specs.Rule.{Fit}
use Rattle.rule.specs.Fits.{fit_of}
use Rattle.rule.specs.Tasks.{setup_of, task_of, by_columns}
use Rattle.rule.specs.declared.Solver.{Solver}
use Rattle.rule.specs.declared.Solver.TheVariants.{Normal, Qr, Marquardt}
use Rattle.rule.specs.declared.Stop.TheVariants.{Settled}
use Rattle.table.specs.Solvers.{three}
use Rattle.table.specs.Fits.{fits, half, quarter, sixteenth, gives}

-- three readings of two ports, a port after the other: by rows the second port would be dead
abbrev theta17 : List Float
theta17 = one ∷ +zero ∷ +zero ∷ +zero ∷ one ∷ +zero ∷ []

abbrev fit17 : Solver → Fit
fit17 solver = fit_of (by_columns (task_of solver 3 2 (setup_of half +zero 10))) theta17 (quarter ∷ three ∷ +zero ∷ [])

-- G17: the second port alone is kept, by each solver: its column is found by its term, in the refit and for the error
pub G17 : fit17 Normal ≡ gives (+zero ∷ three ∷ []) Settled 1 2 sixteenth
unfolding fits
G17 = refl

pub G17_qr : fit17 Qr ≡ gives (+zero ∷ three ∷ []) Settled 1 2 sixteenth
unfolding fits
G17_qr = refl

pub G17_marquardt : fit17 Marquardt ≡ gives (+zero ∷ three ∷ []) Settled 1 2 sixteenth
unfolding fits
G17_marquardt = refl
