-- `round` meets its contract: what the look found, and what the solve over it came to.
use mathlib.Core.Path.{sym, ◌∙◌}
use mathlib.Core.Logic.{◌≢◌}
use borrow.Author.Tests.{eqb-true, eqb-false}
use Rattle.rounds.proofs.Look.{support_fits, turn_empty, turn_settled, turn_refused, turn_again}
use Rattle.rounds.proofs.inner.round.Goals.{Else-eq, Else-eq-2}
use Rattle.rounds.proofs.inner.round.Goals as goal

-- after the first test: a support that is not empty
some : (c : Else-eq) → c.support_of-support.result.0 ≢ 0
some c z = eqb-false _ _ (sym c.eq.ensures ∙ c.if-eq.false) (z ∙ sym c.empty.ensures)

-- after the second: nor the last one
other : (c : Else-eq-2) → c.support_of-support.result.0 ≢ c.args.last.0
other c = eqb-false _ _ (sym c.eq-2.ensures ∙ c.if-eq-2.false)

pub returns-then-eq : goal.returns-then-eq
returns-then-eq c =
    let a = c.args in (
      turn_empty a.given a.last.0 a.coeffs.now c.requires.0.coeffs_long c.support_of-support.result c.support_of-support.ensures
          (eqb-true _ _ (sym c.eq.ensures ∙ c.if-eq.true) ∙ c.empty.ensures) c.clear.ensures,
      c.requires.1,
    )

pub returns-then-eq-2 : goal.returns-then-eq-2
returns-then-eq-2 c =
    let a = c.args in (
      turn_settled a.given a.last.0 a.coeffs.now c.requires.0.coeffs_long c.support_of-support.result c.support_of-support.ensures
          (some (goal.at.returns-then-eq-2 c).Else-eq) (eqb-true _ _ (sym c.eq-2.ensures ∙ c.if-eq-2.true)),
      c.requires.1,
    )

pub solve_terms-requires : goal.solve_terms-requires
solve_terms-requires c =
    (c.requires.0, support_fits _ _ _ c.args.coeffs.now c.support_of-support.ensures c.requires.0.coeffs_long, c.requires.1)

pub returns-in-Ok : goal.returns-in-Ok
returns-in-Ok c =
    let a = c.args in
    let at = goal.at.returns-in-Ok c in (
      turn_again a.given a.last.0 a.coeffs.now c.requires.0.coeffs_long c.support_of-support.result c.support_of-support.ensures
          (some at.Else-eq) (other at.Else-eq-2) c.solve_terms.result c.solve_terms.new.coeffs c.solve_terms.ensures.0 c.in-Ok.is,
      c.solve_terms.ensures.1,
    )

pub returns-in-Err : goal.returns-in-Err
returns-in-Err c =
    let a = c.args in
    let at = goal.at.returns-in-Err c in (
      turn_refused a.given a.last.0 a.coeffs.now c.requires.0.coeffs_long c.support_of-support.result c.support_of-support.ensures
          (some at.Else-eq) (other at.Else-eq-2) c.solve_terms.result c.solve_terms.new.coeffs c.solve_terms.ensures.0
          _ _ c.in-Err.is (c.solve_terms.auto.coeffs ∙ c.requires.0.coeffs_long) c.clear-in-Err.ensures,
      c.solve_terms.ensures.1,
    )
