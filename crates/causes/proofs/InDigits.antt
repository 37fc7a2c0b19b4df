-- The numbers of every line are within their digits. Assumes nothing.
use Rattle.std.specs.Prelude.{Ok, ◌≡◌, List, ℕ, ◌^◌, ◌≤◌, ◌<◌, T, Float}
use Rattle.std.proofs.Common.{sym, ap, ◌∙◌, subst, lt_of_le_of_lt, arith, lit<}
use Rattle.std.specs.Float.{binary64}
use Rattle.std.specs.Float.Ieee.{fits}
use Rattle.steps.specs.Num.{at}
use Rattle.rule.specs.Rule.{Problem, State, going, rounds, coeffs_of}
use Rattle.rule.specs.Fits.{matrix_of}
use Rattle.rule.proofs.Stable.{refits_few, refits_counted}
use Rattle.rule.specs.Rounded.{Rounded, in_format}
use Rattle.rule.proofs.Promises.{looked_made}
use Rattle.rule.specs.declared.Task.{Task}
use Rattle.exchange.specs.Exchange.{theta_asked, target_asked}
use Rattle.exchange.specs.Reading.{target_fits}
use Rattle.why.specs.Codes.{cause_code, cause_refit, cause_value}
use Rattle.why.specs.Truth.{Truly}
use Rattle.why.specs.declared.Cause.{Cause}
use Rattle.why.specs.declared.Cause.TheVariants.{NoData, FirstRefused, Kept, Dropped, Cleared, Zeroed, LeftNan}
use Rattle.causes.specs.Exchange.{why_checked, cause_asked}
use Rattle.causes.specs.Cases.{why_was_accepted}
use Rattle.causes.specs.Promises.{problem_asked}
use Rattle.causes.proofs.Promises.{asked_true}

-- the code in two digits
pub code_within : (c : Cause) → cause_code c < 16 ^ 2
code_within NoData = lit< tt
code_within FirstRefused = lit< tt
code_within Kept = lit< tt
code_within (Dropped r c) = lit< tt
code_within (Cleared r) = lit< tt
code_within (Zeroed c) = lit< tt
code_within LeftNan = lit< tt

module _ (P : Problem) (limit j : ℕ) where
  -- the refit number of a true cause is at most the limit of rounds: a look of a round stands before that round's refit
  refit_few : (c : Cause) → Truly P limit j c → cause_refit c ≤ limit
  refit_few NoData t = omega arith
  refit_few FirstRefused t = omega arith
  refit_few Kept t = omega arith
  refit_few (Dropped r c) t = omega (arith, t.number, t.in_limit)
  refit_few (Cleared r) t = omega (arith, t.number, refits_counted P limit, refits_few P limit)
  refit_few (Zeroed c) t = omega arith
  refit_few LeftNan t = omega arith

  -- what holds of +0.0 and of every coefficient after a round holds of its coefficient
  module _ {Q : Float → Type 0} (made : Rounded Q) (each : (r i : ℕ) → Q (at (coeffs_of (rounds P r)) i)) where
    seen : (r : ℕ) {c : Float} {cs : List Float} {ws : List ℕ} → rounds P r ≡ going cs ws → c ≡ at cs j → Q c
    seen r e v = subst Q (ap (λ (s : State). at (coeffs_of s) j) e ∙ sym v) (each r j)

    value_made : (c : Cause) → Truly P limit j c → Q (cause_value c)
    value_made NoData t = made.nought
    value_made FirstRefused t = made.nought
    value_made Kept t = made.nought
    value_made (Dropped r c) t = seen _ t.looks t.saw
    value_made (Cleared r) t = made.nought
    value_made (Zeroed c) t = seen limit t.0.over t.0.value
    value_made LeftNan t = made.nought

-- of an accepted input, and one of its terms
module _ (s : List ℕ) (task : Task) (ok : why_checked s task ≡ Ok tt) (j : ℕ) (below : j < task.cols) where
  -- the refit number is at most 1,000, in four digits
  pub refit_within : cause_refit (cause_asked s task j) < 16 ^ 4
  refit_within =
      let few = (why_was_accepted s task ok).limited.few_rounds in
      lt_of_le_of_lt (refit_few (problem_asked s task) _ j (cause_asked s task j) (asked_true s task ok j below)) (let q : task.setup.max_iter < 16 ^ 4 = omega (arith, few) in q)

  -- and the coefficient is a binary64, in sixteen, since the numbers of the target are
  pub value_within : T (fits binary64 (cause_value (cause_asked s task j)))
  value_within =
      let each = looked_made task (matrix_of task (theta_asked s task)) (at (target_asked s task)) in_format (target_fits s task) in
      value_made (problem_asked s task) _ j in_format each (cause_asked s task j) (asked_true s task ok j below)
