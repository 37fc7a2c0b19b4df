-- Cases of the squared error that those of the fits let through. All by computing. Assumes nothing.
use Rattle.std.specs.Prelude.{◌≡◌, refl, false, [], ◌∷◌, Float}
use Rattle.std.specs.Float.{nan, inf}
use Rattle.steps.specs.Num.{lit, +zero, one, -one}
use Rattle.rule.specs.Tasks.{setup_of}
use Rattle.rule.specs.declared.Solver.TheVariants.{Normal}
use Rattle.rule.specs.declared.Stop.TheVariants.{NoData, Empty, Settled}
use Rattle.table.specs.Fits.{fits, half, target1, fit_case, gives}

abbrev infinity : Float
infinity = inf false

-- G13: an infinite reading, whose solve gives a NaN, so that the look finds nothing: Empty. At a threshold of zero the cleared term is kept, and zero times infinity makes the error NaN
pub G13 : fit_case Normal (infinity ∷ []) (one ∷ []) 1 1 (setup_of +zero +zero 1) ≡ gives (+zero ∷ []) Empty 0 1 nan
unfolding fits
G13 = refl

-- G14: at a threshold of a half it is not kept, and a column that is not kept is not looked at: the target's square is left
pub G14 : fit_case Normal (infinity ∷ []) (one ∷ []) 1 1 (setup_of half +zero 1) ≡ gives (+zero ∷ []) Empty 0 0 one
unfolding fits
G14 = refl

-- G15: the products of the first row, -1 and 1, cancel, and its target, 2^-60, is left; taken from it in turn they would leave nothing
pub G15 : fit_case Normal (one ∷ one ∷ +zero ∷ one ∷ []) (lit 0x3c30000000000000 ∷ one ∷ []) 2 2 (setup_of half +zero 10) ≡ gives (-one ∷ one ∷ []) Settled 1 3 (lit 0x3870000000000000)
unfolding fits
G15 = refl

-- G16: F1's target and no columns: NoData, and the target's squares
pub G16 : fit_case Normal [] target1 2 0 (setup_of half +zero 10) ≡ gives [] NoData 0 0 (lit 0x4022200000000000)
unfolding fits
G16 = refl
