-- `cholesky` meets its contract: the factor, then both substitutions; a refusal leaves b as it was.
use Rattle.std.proofs.Common.{refl}
use Rattle.std.proofs.lemmas.Result.{err_from_is_err_and}
use Rattle.cholesky.proofs.Ends.{cholesky_stops, cholesky_goes}
use Rattle.cholesky.proofs.inner.cholesky.Goals as goal

pub returns-in_err-cholesky_factor : goal.returns-in_err-cholesky_factor
returns-in_err-cholesky_factor c =
    let p = err_from_is_err_and c.from_residual.result c.from_residual.ensures.1 in
    rw (p.1, p.2) (cholesky_stops _ _ _ _ _ _ c.in_err-cholesky_factor.ensures refl)

pub returns : goal.returns
returns c = cholesky_goes _ _ _ _ _ _ _ c.cholesky_factor.ensures c.in_ok-cholesky_factor.was c.chol_forward.ensures c.chol_back.ensures
