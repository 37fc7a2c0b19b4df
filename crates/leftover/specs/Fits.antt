-- The sums and squares of a fit whose kept columns are listed. Assumes nothing.
use Rattle.std.specs.Prelude.{ℕ, length, Float}
use Rattle.steps.specs.Num.{at, Entry}
use Rattle.places.specs.Columns.{listed}
use Rattle.places.specs.declared.Theta.{Theta}
use Rattle.leftover.specs.Error.{squares, listed_coeffs}
use Rattle.leftover.specs.declared.fit.Fit.{Fit}

-- the kept columns of the matrix that theta holds by e, and their coefficients
abbrev pub kept_entries : (Theta → Entry) → Fit → Entry
kept_entries e fit = listed fit.kept.terms.now (e fit.kept.theta)

abbrev pub kept_coeffs : Fit → ℕ → Float
kept_coeffs fit = listed_coeffs fit.kept.terms.now fit.coeffs.now

-- the squares of the first rows
abbrev pub fit_squares : (Theta → Entry) → ℕ → Fit → Float
fit_squares e rows fit = squares rows (length fit.kept.terms.now) (kept_entries e fit) (at fit.target.now) (kept_coeffs fit)
