-- Only the values at the head of the coefficients go to terms. Assumes nothing.
use mathlib.Core.Path.{◌≡◌, ap}
use mathlib.Core.Logic.{⊎_elim}
use mathlib.Core.Bool.{true, cond}
use mathlib.Core.List.{List, ◌++◌}
use Prim.Native.Nat.{ℕ, ◌^◌, ◌<◌}
use native.Mathlib.Omega.{arith}
use lib.Count.{ones}
use lib.ListN.{length, get_or-append}
use lib.Ieee.{Float, nan}
use Rattle.steps.specs.Num.{+zero, at}
use Rattle.steps.specs.Cond.{yes_or_no}
use Rattle.steps.specs.Table.{tab_cong}
use Rattle.support.specs.Word.{has, place}
use Rattle.support.specs.WordLaws.{passed}
use Rattle.support.specs.CountLaws.{place_lt}
use Rattle.rule.specs.Rule.{scatter}

pub scatter_head : (n w : ℕ) (vs rest : List Float) → w < 2 ^ n → length vs ≡ ones w → scatter n w (vs ++ rest) ≡ scatter n w vs
unfolding scatter
scatter_head n w vs rest h len = tab_cong n _ _ (λ j l. ⊎_elim (λ e. ap (λ (x : Float). cond (has w j) x +zero) (in_head j e)) (λ e. rw e) (yes_or_no (has w j)))
  where
    in_head : (j : ℕ) → has w j ≡ true → at (vs ++ rest) (place w j) ≡ at vs (place w j)
    in_head j e = get_or-append vs rest nan (place w j) (omega (arith, len, place_lt w n j h (passed e)))
