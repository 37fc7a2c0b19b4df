-- `add_pages` meets its contract: a page more.
use mathlib.Core.Path.{◌≡◌}
use Prim.Native.Nat.{◌+◌, ◌*◌, min}
use native.Mathlib.Omega.{arith}
use Rattle.sums.specs.PageLaws.{sums_more}
use Rattle.sums.proofs.inner.pages.add_pages.Goals as goal

pub loop-number-init : goal.loop-number-init
loop-number-init g c = let none : min 0 c.args.theta.rows ≡ 0 = omega arith in rw none c.requires.2

pub loop-number-preserved : goal.loop-number-preserved
loop-number-preserved g c =
    let turn = c.loop-number in
    let rows = c.args.theta.rows in
    let page = c.page_at-page.result in
    let i = 32 * turn.number in
    let before : min i rows ≡ i = omega arith in
    let after : min (32 * (turn.number + 1)) rows ≡ i + page.rows = omega (arith, c.page_at-page.ensures.rows) in
    rw after (sums_more _ _ _ _ _ _ _ c.page_at-page.ensures.holds (rw before at turn.invariant) (rw c.page_at-page.ensures.cols at c.add_page.ensures))

pub returns : goal.returns
returns g c =
    let rows = c.args.theta.rows in
    let all : min (32 * c.loop-number.number) rows ≡ rows = omega arith in
    rw all at c.loop-number.invariant
