-- The solvers, layouts and stops by their codes, and a fit's answer by its number and values. Assumes nothing.
use Rattle.std.specs.Prelude.{cond, ℕ, eqb, Option, Some, None, Result}
use Rattle.refusal.specs.Answers.{answer_number}
use Rattle.refusal.specs.declared.Refusal.{Refusal}
use Rattle.places.specs.declared.Layout.{Layout}
use Rattle.places.specs.declared.Layout.TheVariants.{ByRows, ByColumns}
use Rattle.rule.specs.declared.Solver.TheVariants.{Normal, Qr, Marquardt}
use Rattle.rule.specs.declared.Solver.{Solver}
use Rattle.rule.specs.declared.Report.{Report}
use Rattle.rule.specs.declared.Stop.{Stop}
use Rattle.rule.specs.declared.Stop.TheVariants.{NoData, FirstRefused, Empty, RefitRefused, Settled, OutOfRounds}

-- solvers by a header's code: 01 normal, 02 QR, 03 normal damped in proportion, theta by rows; 11, 12, 13 mean the same solvers, theta by columns; no other
unfoldable pub by_code : ℕ → Option (Layout × Solver)
by_code c =
    cond (eqb c 0x01) (Some (ByRows, Normal)) (cond (eqb c 0x02) (Some (ByRows, Qr)) (cond (eqb c 0x03) (Some (ByRows, Marquardt))
    (cond (eqb c 0x11) (Some (ByColumns, Normal)) (cond (eqb c 0x12) (Some (ByColumns, Qr)) (cond (eqb c 0x13) (Some (ByColumns, Marquardt))
    None)))))

-- stops in code order 00 to 05
abbrev pub stop_code : Stop → ℕ
stop_code NoData = 0
stop_code (FirstRefused t) = 1
stop_code Empty = 2
stop_code (RefitRefused t) = 3
stop_code Settled = 4
stop_code OutOfRounds = 5

-- the term at which a solve refused; ff where there is no such term
abbrev pub stop_term : Stop → ℕ
stop_term NoData = 0xff
stop_term (FirstRefused t) = t.0
stop_term Empty = 0xff
stop_term (RefitRefused t) = t.0
stop_term Settled = 0xff
stop_term OutOfRounds = 0xff

-- a fit's answer by number: 0 for a report, else the refusal's
abbrev pub fitted_number : Result Report Refusal → ℕ
fitted_number r = answer_number r
