-- `solve_terms` meets its contract: refused, or the values at the head of the coefficients put at their terms.
use mathlib.Core.Path.{◌≡◌, ◌∙◌}
use mathlib.Core.List.{◌++◌}
use Prim.Native.Nat.{◌-◌, ◌≤◌}
use native.Mathlib.Omega.{arith}
use lib.Count.{ones-le}
use lib.ListN.{length, drop, length-append, length-drop}
use Rattle.refit.proofs.Joined.{length_head}
use Rattle.refit.proofs.Ends.{done_out}
use Rattle.refit.proofs.inner.solve_terms.Goals.{After-count-n_active}
use Rattle.refit.proofs.inner.solve_terms.Goals as goal

-- the count of the support's columns is at most that of the coefficients
few : (c : After-count-n_active) → c.count-n_active.result ≤ length c.args.coeffs.now
few c = omega (arith, c.count-n_active.ensures, ones-le c.args.given.task.cols c.args.support.0 c.requires.1, c.requires.0.coeffs_long)

pub slice_bounds-solve_columns-end : goal.slice_bounds-solve_columns-end
slice_bounds-solve_columns-end c = few (goal.at.slice_bounds-solve_columns-end c).After-count-n_active

pub returns-in-Ok : goal.returns-in-Ok
returns-in-Ok c =
    let n = c.count-n_active.result in
    let values = c.solve_columns.new.b in
    let rest = drop (n - 0) c.args.coeffs.now in
    let fits = few (goal.at.returns-in-Ok c).After-count-n_active in
    let long : length values ≡ n = c.solve_columns.auto.b ∙ length_head n c.args.coeffs.now fits in
    let all : length (values ++ rest) ≡ c.args.given.task.cols = simp (length-append, length-drop) (omega (arith, long, fits, c.requires.0.coeffs_long)) in
    let made = c.solve_columns.ensures in
    (done_out _ _ _ c.solve_columns.result values rest c.in-Ok.is made.0 all c.requires.1 (long ∙ c.count-n_active.ensures) c.scatter.ensures, made.1)
