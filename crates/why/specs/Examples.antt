-- The cause of a term, case by case, by computing: one for each cause, and what the looks of several refits tell. Assumes nothing.
use Rattle.std.specs.Prelude.{◌≡◌, refl, List, [], ◌∷◌, ℕ, Float}
use Rattle.std.specs.Float.{nan}
use Rattle.steps.specs.Num.{lit, +zero, one, -one}
use Rattle.rule.specs.Dropped as D
use Rattle.rule.specs.Tasks.{setup_of, task_of}
use Rattle.rule.specs.declared.Setup.{Setup}
use Rattle.rule.specs.declared.Solver.TheVariants.{Normal}
use Rattle.table.specs.Solvers.{three, four}
use Rattle.table.specs.Fits.{fits, half, quarter, theta1, target1}
use Rattle.why.specs.declared.Cause.{Cause}
use Rattle.why.specs.declared.Cause.TheVariants.{NoData, FirstRefused, Kept, Dropped, Cleared, Zeroed, LeftNan}
use Rattle.why.specs.Cause as C
use Rattle.why.specs.Cause.{cause_of}

-- all that a cause computes with
unfoldable pub causes : Unit {0}
unfolding fits D.drops D.or_else D.dropped C.by_value C.undropped C.caused C.cause
causes = tt

abbrev -quarter : Float
-quarter = lit 0xbfd0000000000000

-- the causes of two or three terms of a fit by `strlsq`
abbrev cause_case : List Float → List Float → ℕ → ℕ → Setup → ℕ → Cause
cause_case theta target rows n s j = cause_of (task_of Normal rows n s) theta target j

-- H1, of F1: port 0 is kept, port 1 was dropped at the first look with 0.25
pub H1_kept : cause_case theta1 target1 2 2 (setup_of half +zero 10) 0 ≡ Kept
unfolding causes
H1_kept = refl

pub H1_dropped : cause_case theta1 target1 2 2 (setup_of half +zero 10) 1 ≡ Dropped 1 quarter
unfolding causes
H1_dropped = refl

-- H2, of F4: the first look finds nothing, so both are dropped before a refit 1 that never was
pub H2 : cause_case theta1 target1 2 2 (setup_of four +zero 10) 0 ≡ Dropped 1 three
unfolding causes
H2 = refl

-- H3, of G4: after one round the last look does not find port 0, and drops nothing: the last pass zeroes it
abbrev three_ports : ℕ → ℕ → Cause
three_ports limit j =
    cause_case (one ∷ one ∷ +zero ∷ +zero ∷ one ∷ +zero ∷ +zero ∷ +zero ∷ one ∷ []) (-quarter ∷ quarter ∷ three ∷ []) 3 3 (setup_of half +zero limit) j

pub H3_zeroed : three_ports 1 0 ≡ Zeroed -quarter
unfolding causes
H3_zeroed = refl

-- with one round more that look is a round's: it drops port 0 before refit 2, and port 1, which fell before, keeps its own refit and coefficient
pub H3_dropped : three_ports 2 0 ≡ Dropped 2 -quarter
unfolding causes
H3_dropped = refl

pub H3_earlier : three_ports 2 1 ≡ Dropped 1 quarter
unfolding causes
H3_earlier = refl

-- H4, of G5: refit 1, of port 1 alone, is refused and clears it; port 0 was dropped by the look before
pub H4_cleared : cause_case (one ∷ one ∷ one ∷ +zero ∷ []) (+zero ∷ three ∷ []) 2 2 (setup_of half -one 10) 1 ≡ Cleared 1
unfolding causes
H4_cleared = refl

pub H4_dropped : cause_case (one ∷ one ∷ one ∷ +zero ∷ []) (+zero ∷ three ∷ []) 2 2 (setup_of half -one 10) 0 ≡ Dropped 1 +zero
unfolding causes
H4_dropped = refl

-- H5, of F5; H6, of F8: with no round a NaN is left, with one its look drops it; H7: no rows
pub H5 : cause_case (+zero ∷ []) (one ∷ []) 1 1 (setup_of half +zero 1) 0 ≡ FirstRefused
unfolding causes
H5 = refl

pub H6_left : cause_case (one ∷ []) (nan ∷ []) 1 1 (setup_of half +zero 0) 0 ≡ LeftNan
unfolding causes
H6_left = refl

pub H6_dropped : cause_case (one ∷ []) (nan ∷ []) 1 1 (setup_of half +zero 1) 0 ≡ Dropped 1 nan
unfolding causes
H6_dropped = refl

pub H7 : cause_case [] [] 0 2 (setup_of half +zero 3) 1 ≡ NoData
unfolding causes
H7 = refl
