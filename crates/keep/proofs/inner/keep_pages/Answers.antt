-- `keep_pages` meets its contract: a page more.
use mathlib.Core.Path.{◌≡◌}
use Prim.Native.Nat.{◌+◌, ◌*◌, min}
use native.Mathlib.Omega.{arith}
use Rattle.keep.proofs.Taking.{kept_more}
use Rattle.keep.proofs.inner.keep_pages.Goals as goal

pub loop-number-init : goal.loop-number-init
loop-number-init g c = let none : min 0 c.args.theta.rows ≡ 0 = omega arith in rw none c.requires.3

pub loop-number-preserved : goal.loop-number-preserved
loop-number-preserved g c =
    let turn = c.loop-number in
    let rows = c.args.theta.rows in
    let page = c.page_at-page.ensures in
    let i = 32 * turn.number in
    let before : min i rows ≡ i = omega arith in
    let after : min (32 * (turn.number + 1)) rows ≡ i + c.page_at-page.result.rows = omega (arith, page.rows) in
    rw after (kept_more _ _ _ _ _ _ _ _ page.holds (rw before at turn.invariant) (rw page.cols at c.take_page.ensures))

pub returns : goal.returns
returns g c =
    let rows = c.args.theta.rows in
    let all : min (32 * c.loop-number.number) rows ≡ rows = omega arith in
    rw all at c.loop-number.invariant
