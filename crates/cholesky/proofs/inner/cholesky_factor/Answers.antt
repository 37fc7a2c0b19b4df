-- `cholesky_factor` meets its contract. The loop's invariant: the columns before j went as the rule says, and left the matrix as it is.
use Rattle.std.proofs.Common.{◌≡◌, refl, sym, arith}
use Rattle.std.proofs.lemmas.Result.{err_from_is_err_and}
use Rattle.steps.specs.Loops.{way_none}
use Rattle.refusal.specs.Told.{told_goes, told_stops}
use Rattle.cholesky.specs.Cholesky.{chol_factor}
use Rattle.cholesky.proofs.inner.cholesky_factor.Goals as goal

pub loop-j-init : goal.loop-j-init
loop-j-init c = way_none _ _ _

pub returns-in_err-chol_column : goal.returns-in_err-chol_column
unfolding chol_factor
returns-in_err-chol_column c =
    let turn = c.loop-j in
    let p = err_from_is_err_and c.from_residual.result c.from_residual.ensures.1 in
    rw (p.1, p.2, ← c.chol_scale-bound.ensures)
    (told_stops _ 0 turn.j _ _ _ _ (omega arith) turn.invariant c.in_err-chol_column.ensures _ c.loop-j-test.true refl)

pub loop-j-preserved : goal.loop-j-preserved
loop-j-preserved c = let turn = c.loop-j in told_goes _ 0 turn.j _ _ _ _ (omega arith) turn.invariant c.chol_column.ensures c.in_ok-chol_column.was

pub returns : goal.returns
unfolding chol_factor
returns c =
    let all : c.loop-j.j ≡ c.args.n = omega arith in
    rw (← c.chol_scale-bound.ensures) (sym (rw all at c.loop-j.invariant))
