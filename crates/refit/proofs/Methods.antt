-- What is known of a solver by what it solves from. Assumes nothing.
use mathlib.Core.Path.{◌≡◌, refl}
use mathlib.Core.Logic.{◌≢◌}
use Prim.Native.Nat.{ℕ}
use lib.Ieee.{Float}
use Rattle.sums.specs.Inner.{damps}
use Rattle.sums.specs.declared.inner.Damping.{Damping}
use Rattle.sums.specs.declared.inner.Damping.TheVariants.{Ridge, Proportion}
use Rattle.rule.specs.Fits.{by_normal, solves}
use Rattle.rule.specs.Sizes.{normal_need, fit_need}
use Rattle.rule.specs.declared.Solver.{Solver}
use Rattle.rule.specs.declared.Solver.TheVariants.{Normal, Qr, Marquardt}
use Rattle.refit.specs.declared.inner.method.Method.TheVariants.{Sums, Rows}
use Rattle.refit.specs.Method.{method_of}

-- from the sums: it is the normal equations with that damping, in their workspace, and not least squares
pub record FromSums (solver : Solver) (lambda : Float) (d : Damping) : Type 0 where
  pub solve : (t : ℕ → Float) (rows : ℕ) → solves solver lambda t rows ≡ by_normal (damps d) t rows
  pub need : (rows cols : ℕ) → fit_need solver rows cols ≡ normal_need cols
  pub not_qr : solver ≢ Qr

pub from_sums : (solver : Solver) (lambda : Float) (d : Damping) → method_of solver lambda ≡ Sums d → FromSums solver lambda d
unfolding solves fit_need
from_sums Normal lambda d e =
    let same : Ridge lambda ≡ d = cc in
    record { solve = λ t rows. rw (← same); need = λ rows cols. refl; not_qr = λ q. cc }
from_sums Qr lambda d e = absurd cc
from_sums Marquardt lambda d e =
    let same : Proportion lambda ≡ d = cc in
    record { solve = λ t rows. rw (← same); need = λ rows cols. refl; not_qr = λ q. cc }

-- from the rows: it is least squares
pub from_rows : (solver : Solver) (lambda : Float) → method_of solver lambda ≡ Rows → solver ≡ Qr
from_rows Normal lambda e = cc
from_rows Qr lambda e = refl
from_rows Marquardt lambda e = cc
