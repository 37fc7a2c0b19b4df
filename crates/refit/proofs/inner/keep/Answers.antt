-- `keep` meets its contract: where it solves from the sums those of all columns, at the head; else nothing.
use mathlib.Core.Path.{sym, ◌∙◌}
use Prim.Native.Nat.{◌-◌, ◌≤◌}
use lib.ListN.{length}
use Rattle.sums.specs.Kept.{kept_size}
use Rattle.refit.proofs.Methods.{from_sums}
use Rattle.refit.proofs.Large.{sums_fit}
use Rattle.refit.proofs.Joined.{length_head}
use Rattle.refit.proofs.Kept.{kept_now}
use Rattle.refit.proofs.inner.keep.Goals.{In-Sums}
use Rattle.refit.proofs.inner.keep.Goals as goal

-- the workspace has room for the head
fits : (c : In-Sums) → kept_size c.args.given.task.cols ≤ length c.args.ws.now
fits c = sums_fit c.args.given.task (from_sums _ _ _ (sym c.method_of.ensures ∙ c.in-Sums.is)) c.requires

pub slice_bounds-keep_sums-end : goal.slice_bounds-keep_sums-end
slice_bounds-keep_sums-end c = fits (goal.at.slice_bounds-keep_sums-end c).In-Sums

pub returns-in-Sums : goal.returns-in-Sums
returns-in-Sums c =
    let n = c.args.given.task.cols in
    let long = length_head (kept_size n) c.args.ws.now (fits (goal.at.returns-in-Sums c).In-Sums) in
    kept_now c.args.given c.keep_sums.new.sums _ (c.keep_sums.auto.sums ∙ long) (rw (c.theta.ensures.matrix, c.theta.ensures.cols, c.theta.ensures.rows) at c.keep_sums.ensures)
