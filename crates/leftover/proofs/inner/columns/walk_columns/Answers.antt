-- `walk_columns` meets its contract: a page more.
use mathlib.Core.Path.{◌≡◌, ◌∙◌}
use Prim.Native.Nat.{◌+◌, ◌*◌, ◌<◌, ◌≤◌}
use native.Mathlib.Omega.{arith}
use lib.ListN.{length, take}
use lib.Seq.{length-take-le}
use Rattle.steps.specs.Num.{at}
use Rattle.steps.specs.Space.{at_part}
use Rattle.places.specs.Theta.{by_columns}
use Rattle.leftover.specs.Fits.{kept_entries, kept_coeffs}
use Rattle.leftover.proofs.Walks.{rows_none, rows_end, page_more}
use Rattle.leftover.proofs.inner.columns.walk_columns.Goals as goal

pub loop-page-init : goal.loop-page-init
loop-page-init c = rows_end _ _ _ _ 0 _ (rows_none _ _ _ _) (omega arith)

pub loop-page-preserved : goal.loop-page-preserved
loop-page-preserved c =
    let turn = c.loop-page in
    let fit = c.args.fit in
    let i = 256 * turn.page in
    let h = c.min-h.result in
    let before : i < fit.kept.theta.rows = omega arith in
    let fits : h ≤ length turn.room = omega arith in
    let ends : i + h ≤ length fit.target.now = omega (arith, fit.targets) in
    let long : length (take h turn.room) ≡ h = length-take-le h turn.room fits in
    let longs : length c.row_sums.new.sums ≡ h = c.row_sums.auto.sums ∙ long in
    let taken = rw long at c.row_sums.ensures in
    let added = rw longs at c.add_squares-error.ensures in
    rows_end _ _ _ _ (i + h) _
    (page_more (kept_entries by_columns fit) (kept_coeffs fit) i h _ (at fit.target.now) _ c.row_sums.new.sums taken (λ m l. at_part i (i + h) fit.target.now m (omega arith))
    (rows_end _ _ _ _ _ _ turn.invariant (omega arith)) added)
    (omega arith)

pub returns : goal.returns
returns c = rows_end _ _ _ _ _ _ c.loop-page.invariant (omega arith)
