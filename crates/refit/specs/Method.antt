-- What a solver solves from. Assumes nothing.
use Rattle.std.specs.Prelude.{Float}
use Rattle.sums.specs.declared.inner.Damping.TheVariants.{Ridge, Proportion}
use Rattle.rule.specs.declared.Solver.{Solver}
use Rattle.rule.specs.declared.Solver.TheVariants.{Normal, Qr, Marquardt}
use Rattle.refit.specs.declared.inner.method.Method.{Method}
use Rattle.refit.specs.declared.inner.method.Method.TheVariants.{Sums, Rows}

-- the kept sums, with the solver's damping, or the rows
abbrev pub method_of : Solver → Float → Method
method_of Normal lambda = Sums (Ridge lambda)
method_of Qr lambda = Rows
method_of Marquardt lambda = Sums (Proportion lambda)
