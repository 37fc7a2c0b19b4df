-- Cases of the third fit, whose damping is in proportion. All by computing. Assumes nothing.
use Rattle.std.specs.Prelude.{◌≡◌, refl, [], ◌∷◌, Float}
use Rattle.std.specs.Float.{nan}
use Rattle.steps.specs.Num.{lit, +zero, one, two}
use Rattle.rule.specs.Tasks.{setup_of}
use Rattle.rule.specs.declared.Solver.TheVariants.{Marquardt}
use Rattle.rule.specs.declared.Stop.TheVariants.{Settled, OutOfRounds}
use Rattle.table.specs.Solvers.{three, four}
use Rattle.table.specs.Fits.{fits, half, quarter, sixteenth, fit_case, gives, theta1, target1}

-- 2^-26, whose square is 2^-52, and the number below it
abbrev 2^-26 : Float
2^-26 = lit 0x3e50000000000000

abbrev below_2^-26 : Float
below_2^-26 = lit 0x3e4fffffffffffff

abbrev eight : Float
eight = lit 0x4020000000000000

-- F1 by the third fit: a lambda of zero damps nothing
pub F1_marquardt : fit_case Marquardt theta1 target1 2 2 (setup_of half +zero 10) ≡ gives (three ∷ +zero ∷ []) Settled 1 1 sixteenth
unfolding fits
F1_marquardt = refl

-- G9: three ports that share no row, and a lambda of 4. The first's sum is just below 2^-52 and gets 4; those of the second, 2^-52, and of the third, 4, get 4 times themselves.
-- The targets are 2^28, 5·2^-26 and 10, so that each coefficient is 1, or next to it
pub G9 : fit_case Marquardt (below_2^-26 ∷ +zero ∷ +zero ∷ +zero ∷ 2^-26 ∷ +zero ∷ +zero ∷ +zero ∷ two ∷ [])
    (lit 0x41b0000000000000 ∷ lit 0x3e74000000000000 ∷ lit 0x4024000000000000 ∷ []) 3 3 (setup_of half four 10)
    ≡ gives (lit 0x3fefffffffffffff ∷ one ∷ one ∷ []) Settled 1 7 (lit 0x4370000000000004)
unfolding fits
G9 = refl

-- G10: the first solve is damped in proportion too: by lambda alone the first port would fall at once
pub G10 : fit_case Marquardt (half ∷ +zero ∷ +zero ∷ two ∷ []) (one ∷ eight ∷ []) 2 2 (setup_of half three 10) ≡ gives (half ∷ one ∷ []) Settled 1 3 (lit 0x4042480000000000)
unfolding fits
G10 = refl

-- G11: a port falls, and the refit damps the undamped sum of the other: 16/(4 + 3·4)
pub G11 : fit_case Marquardt (one ∷ +zero ∷ +zero ∷ two ∷ []) (quarter ∷ eight ∷ []) 2 2 (setup_of half three 10) ≡ gives (+zero ∷ one ∷ []) Settled 1 2 (lit 0x4042080000000000)
unfolding fits
G11 = refl

-- G12: a sum that is NaN is damped to NaN, which no solve refuses; the NaN that is left is not kept, so that the error is the target's square
pub G12 : fit_case Marquardt (nan ∷ []) (one ∷ []) 1 1 (setup_of half three 0) ≡ gives (nan ∷ []) OutOfRounds 0 0 one
unfolding fits
G12 = refl
