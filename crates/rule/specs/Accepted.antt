-- A call of a fit that no refusal applies to answers the report of the rule and leaves its coefficients. Assumes nothing.
use Rattle.std.specs.Prelude.{Err, Ok, ◌≡◌, refl, List, Float, Result}
use Rattle.std.proofs.Common.{sym, ◌∙◌}
use Rattle.refusal.specs.Answers.{Answer}
use Rattle.rule.specs.Rule.{Fit}
use Rattle.rule.specs.Fits.{fit_of}
use Rattle.rule.specs.Sizes.{Ready, accepted, ready}
use Rattle.rule.specs.Calls.{report_of, fitted, FitCall}
use Rattle.rule.specs.declared.Task.{Task}
use Rattle.rule.specs.declared.Report.{Report}
use Rattle.refusal.specs.declared.Refusal.{Refusal}

-- a report is answered only where nothing is refused
reported_done : (a : Answer) (f : Fit) (report : Report) → Ok report ≡ fitted a f → a ≡ Ok tt
reported_done (Ok done) f report e = refl
reported_done (Err w) f report e = cc

module _ {task : Task} {theta target cs cs' w w' : List Float} where
  -- a call of what is ready
  module _ {r : Result Report Refusal} (a : Ready task theta target cs w) (call : FitCall task theta target cs cs' w w' r) where
    done : call.sizes ≡ Ok tt
    done = call.judged ∙ accepted a

    pub answers : r ≡ Ok (report_of (fit_of task theta target))
    answers = rw done at call.answer

    pub leaves : cs' ≡ (fit_of task theta target).coeffs
    leaves = rw done at call.coeffs

  -- a call that answered a report
  module _ {report : Report} (call : FitCall task theta target cs cs' w w' (Ok report)) where
    pub was_ready : Ready task theta target cs w
    was_ready = ready (sym call.judged ∙ reported_done call.sizes _ report call.answer)

    pub report_is : report ≡ report_of (fit_of task theta target)
    report_is = cc (answers was_ready call)
