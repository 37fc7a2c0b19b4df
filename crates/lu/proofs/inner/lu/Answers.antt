-- `lu` meets its contract: the factors, then both substitutions; a refusal leaves the matrix and b as the steps so far made them.
use Rattle.std.proofs.Common.{refl}
use Rattle.std.proofs.lemmas.Result.{err_from_is_err_and}
use Rattle.lu.proofs.Ends.{lu_stops, lu_goes}
use Rattle.lu.proofs.inner.lu.Goals as goal

pub returns-in_err-lu_factor : goal.returns-in_err-lu_factor
returns-in_err-lu_factor c =
    let p = err_from_is_err_and c.from_residual.result c.from_residual.ensures.1 in
    rw (p.1, p.2) (lu_stops _ _ _ _ _ _ _ c.in_err-lu_factor.ensures refl)

pub returns : goal.returns
returns c = lu_goes _ _ _ _ _ _ _ _ c.lu_factor.ensures c.in_ok-lu_factor.was c.lu_forward.ensures c.lu_back.ensures
