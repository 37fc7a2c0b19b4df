-- `fill_fours` meets its contract: four columns more.
use mathlib.Core.Path.{◌≡◌}
use Prim.Native.Nat.{◌+◌, ◌*◌}
use native.Mathlib.Omega.{arith}
use Rattle.places.specs.Down.{holds_none}
use Rattle.sums.proofs.inner.columns.fill_fours.Goals as goal

pub loop-four-init : goal.loop-four-init
loop-four-init c = holds_none _ _ _ _ _ _

pub fill_four-requires : goal.fill_four-requires
fill_four-requires c = (c.requires.0, omega arith, omega arith, c.loop-four.invariant)

pub loop-four-preserved : goal.loop-four-preserved
loop-four-preserved c =
    let turn = c.loop-four in
    let more : 4 * (turn.four + 1) ≡ 4 * turn.four + 4 = omega arith in
    rw more c.fill_four.ensures

pub returns : goal.returns
returns c =
    let end = c.loop-four in
    let all : end.four ≡ c.args.m = omega arith in
    rw all at end.invariant
