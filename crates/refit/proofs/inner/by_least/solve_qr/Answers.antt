-- `solve_qr` meets its contract: the values are read behind the matrix.
use mathlib.Core.Path.{◌∙◌}
use Rattle.steps.specs.Space.{with_part}
use Rattle.refit.proofs.Large.{least_fits}
use Rattle.refit.proofs.Joined.{read}
use Rattle.refit.proofs.Ends.{read_out}
use Rattle.refit.proofs.inner.by_least.solve_qr.Goals as goal

-- the workspace has room for the matrix and the right-hand side
pub slice_bounds-qr_values-end : goal.slice_bounds-qr_values-end
slice_bounds-qr_values-end c = least_fits c.requires.0 c.requires.1 c.requires.2

pub returns : goal.returns
unfolding with_part
returns c =
    let fits = least_fits c.requires.0 c.requires.1 c.requires.2 in
    let values = read c.args.given.task _ c.args.ws.now c.qr_values-solved.new.ws fits c.qr_values-solved.auto.ws in
    read_out c.qr_values-solved.result _ _ _ (c.copy.ensures ∙ values) c.qr_values-solved.ensures
