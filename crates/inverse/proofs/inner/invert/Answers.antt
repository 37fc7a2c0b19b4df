-- `invert` meets its contract: the inverse by the factor of a copy, or the refusal of that, which leaves the output as it was.
use Rattle.std.proofs.Common.{refl}
use Rattle.std.proofs.lemmas.Result.{err_from_is_err_and}
use Rattle.inverse.proofs.Ends.{invert_stops, invert_goes}
use Rattle.inverse.proofs.inner.invert.Goals as goal

pub returns-in_err-cholesky_factor : goal.returns-in_err-cholesky_factor
returns-in_err-cholesky_factor c =
    let p = err_from_is_err_and c.from_residual.result c.from_residual.ensures.1 in
    rw (p.1, p.2) (invert_stops _ _ _ _ _ _ (rw c.copy.ensures at c.in_err-cholesky_factor.ensures) refl)

pub returns : goal.returns
returns c = invert_goes _ _ _ _ _ _ (rw c.copy.ensures at c.cholesky_factor.ensures) c.in_ok-cholesky_factor.was c.inverse_of.ensures
