-- `fours` meets its contract: four columns more.
use mathlib.Core.Path.{◌≡◌}
use Prim.Native.Nat.{◌+◌, ◌*◌}
use native.Mathlib.Omega.{arith}
use Rattle.pairs.proofs.Changes.{no_column, beside}
use Rattle.pairs.proofs.inner.fours.Goals as goal

pub loop-four-init : goal.loop-four-init
loop-four-init c = no_column _ _ _ _ _ _ _ (omega arith)

pub loop-four-preserved : goal.loop-four-preserved
loop-four-preserved c =
    let turn = c.loop-four in
    beside _ _ _ _ _ (c.args.k + 4 * turn.four) _ _ _ turn.out _ (omega arith) (omega arith) (omega arith) turn.invariant c.sum_four.ensures

pub returns : goal.returns
returns c =
    let end = c.loop-four in
    let all : c.args.k + 4 * end.four ≡ c.args.page.cols = omega arith in
    rw all at end.invariant
