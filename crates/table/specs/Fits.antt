-- The words for a case of a fit, and the cases that catch what the marked ones let through, F8 among them. All by computing. Assumes nothing.
use Rattle.std.specs.Prelude.{ℕ, ◌≡◌, refl, List, [], ◌∷◌, Float}
use Rattle.std.specs.Float.{nan}
use Rattle.std.specs.Int.Count.{ones}
use Rattle.steps.specs.Num.{lit, +zero, one, -one, two}
use Rattle.support.specs.Word as W
use Rattle.places.specs.Stored as S
use Rattle.places.specs.Columns as C
use Rattle.leftover.specs.Error as E
use Rattle.sums.specs.Products as P
use Rattle.rule.specs.Rule as R
use Rattle.rule.specs.Rule.{Fit}
use Rattle.rule.specs.Fits as F
use Rattle.rule.specs.Tasks.{setup_of, task_of}
use Rattle.rule.specs.declared.Setup.{Setup}
use Rattle.rule.specs.declared.Solver.{Solver}
use Rattle.rule.specs.declared.Solver.TheVariants.{Normal, Qr}
use Rattle.rule.specs.declared.Stop.{Stop}
use Rattle.rule.specs.declared.Stop.TheVariants.{NoData, FirstRefused, Empty, RefitRefused, Settled, OutOfRounds}
use Rattle.table.specs.Solvers.{opened, three}

-- all that a fit computes with
unfoldable pub fits : Unit {0}
unfolding opened ones W.has W.count W.word W.terms W.place W.term
    S.stored C.columns E.products E.leftover E.squares E.squared_error P.gram P.moment P.ridge P.marquardt P.damped P.jtj_matrix P.jtr_column
    R.support R.scatter R.refit R.look R.round R.first R.start R.rounds R.pruned R.reported R.last_look R.finish R.fit
    F.keeps F.clears F.by_sums F.by_normal F.augmented F.padded F.by_least F.solves F.problem F.fit_by F.matrix_of
fits = tt

abbrev pub half : Float
half = lit 0x3fe0000000000000

abbrev pub quarter : Float
quarter = lit 0x3fd0000000000000

abbrev pub sixteenth : Float
sixteenth = lit 0x3fb0000000000000

abbrev eighth : Float
eighth = lit 0x3fc0000000000000

abbrev nine : Float
nine = lit 0x4022000000000000

abbrev -quarter : Float
-quarter = lit 0xbfd0000000000000

abbrev sixteen : Float
sixteen = lit 0x4030000000000000

-- a fit by a solver, of theta and target, with so many rows and columns, and a setup
abbrev pub fit_case : Solver → List Float → List Float → ℕ → ℕ → Setup → Fit
fit_case solver theta target rows n s = F.fit_of (task_of solver rows n s) theta target

-- the coefficients, the stop, the refits, the kept word and the squared error
abbrev pub gives : List Float → Stop → ℕ → ℕ → Float → Fit
gives cs t r k e = record { coeffs = cs; stop = t; refits = r; kept = k; error = e }

-- F1's matrix and target
abbrev pub theta1 : List Float
theta1 = one ∷ +zero ∷ +zero ∷ one ∷ []

abbrev pub target1 : List Float
target1 = three ∷ quarter ∷ []

pub F8_none : fit_case Normal (one ∷ []) (nan ∷ []) 1 1 (setup_of half +zero 0) ≡ gives (nan ∷ []) OutOfRounds 0 0 nan
unfolding fits
F8_none = refl

pub F8_one : fit_case Normal (one ∷ []) (nan ∷ []) 1 1 (setup_of half +zero 1) ≡ gives (+zero ∷ []) Empty 0 0 nan
unfolding fits
F8_one = refl

-- F1 by the second fit
pub F1_qr : fit_case Qr theta1 target1 2 2 (setup_of half +zero 10) ≡ gives (three ∷ +zero ∷ []) Settled 1 1 sixteenth
unfolding fits
F1_qr = refl

-- G1: the last column alone is kept: its value goes back to its term, not to its reduced place
pub G1 : fit_case Normal theta1 (quarter ∷ three ∷ []) 2 2 (setup_of half +zero 10) ≡ gives (+zero ∷ three ∷ []) Settled 1 2 sixteenth
unfolding fits
G1 = refl

-- G2: no columns, and no rows: zeros, and the kept word by its rule at a threshold of zero
pub G2 : fit_case Normal [] [] 0 2 (setup_of +zero +zero 3) ≡ gives (+zero ∷ +zero ∷ []) NoData 0 3 +zero
unfolding fits
G2 = refl

-- G3, F3's like: the refit's only coefficient falls below the threshold, so the last look finds nothing: OutOfRounds, not Empty
pub G3 : fit_case Normal (one ∷ one ∷ +zero ∷ one ∷ []) (-quarter ∷ quarter ∷ []) 2 2 (setup_of half +zero 1) ≡ gives (+zero ∷ +zero ∷ []) OutOfRounds 1 0 eighth
unfolding fits
G3 = refl

-- G4: one of the refit's two falls, so the last look finds fewer terms than were refitted
pub G4 : fit_case Normal (one ∷ one ∷ +zero ∷ +zero ∷ one ∷ +zero ∷ +zero ∷ +zero ∷ one ∷ []) (-quarter ∷ quarter ∷ three ∷ []) 3 3 (setup_of half +zero 1)
    ≡ gives (+zero ∷ +zero ∷ three ∷ []) OutOfRounds 1 4 eighth
unfolding fits
G4 = refl

-- G5: the refit of the second column alone is refused at its only place, 0: the report names theta's term, 1
pub G5 : fit_case Normal (one ∷ one ∷ one ∷ +zero ∷ []) (+zero ∷ three ∷ []) 2 2 (setup_of half -one 10) ≡ gives (+zero ∷ +zero ∷ []) (RefitRefused (record { 0 = 1 })) 1 0 nine
unfolding fits
G5 = refl

-- G6: two ports in series, the second 2^25 times the first: Cholesky refuses at the first column, LU at the second, which is named
pub G6 : fit_case Normal (one ∷ lit 0x4180000000000000 ∷ []) (one ∷ []) 1 2 (setup_of half +zero 10) ≡ gives (+zero ∷ +zero ∷ []) (FirstRefused (record { 0 = 1 })) 0 0 one
unfolding fits
G6 = refl

-- G7: two dead ports, by least squares: back substitution meets the last one first
pub G7 : fit_case Qr (+zero ∷ +zero ∷ []) (one ∷ []) 1 2 (setup_of half +zero 10) ≡ gives (+zero ∷ +zero ∷ []) (FirstRefused (record { 0 = 1 })) 0 0 one
unfolding fits
G7 = refl

-- G8: ports 1 and 2 are alike, and rounding alone tells them apart beside port 0, which falls: their refit is refused at place 1, theta's term 2
pub G8 : fit_case Qr (one ∷ sixteen ∷ sixteen ∷ +zero ∷ +zero ∷ +zero ∷ two ∷ +zero ∷ +zero ∷ []) (+zero ∷ one ∷ +zero ∷ []) 3 3 (setup_of half +zero 10)
    ≡ gives (+zero ∷ +zero ∷ +zero ∷ []) (RefitRefused (record { 0 = 2 })) 1 0 one
unfolding fits
G8 = refl
