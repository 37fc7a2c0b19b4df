-- `lu_factor` meets its contract. The loop's invariant: the columns before k went as the rule says, and left the matrix and b as they are.
use Rattle.std.proofs.Common.{◌≡◌, refl, sym, arith}
use Rattle.std.proofs.lemmas.Result.{err_from_is_err_and}
use Rattle.steps.specs.Loops.{way_none}
use Rattle.refusal.specs.Told.{told_goes, told_stops}
use Rattle.lu.specs.Lu.{lu_factor}
use Rattle.lu.proofs.inner.lu_factor.Goals as goal

pub loop-k-init : goal.loop-k-init
loop-k-init c = way_none _ _ _

pub returns-in_err-lu_column : goal.returns-in_err-lu_column
unfolding lu_factor
returns-in_err-lu_column c =
    let turn = c.loop-k in
    let p = err_from_is_err_and c.from_residual.result c.from_residual.ensures.1 in
    rw (p.1, p.2) (told_stops _ 0 turn.k _ _ _ _ (omega arith) turn.invariant c.in_err-lu_column.ensures _ c.loop-k-test.true refl)

pub loop-k-preserved : goal.loop-k-preserved
loop-k-preserved c = let turn = c.loop-k in told_goes _ 0 turn.k _ _ _ _ (omega arith) turn.invariant c.lu_column.ensures c.in_ok-lu_column.was

pub returns : goal.returns
unfolding lu_factor
returns c =
    let all : c.loop-k.k ≡ c.args.n = omega arith in
    sym (rw all at c.loop-k.invariant)
