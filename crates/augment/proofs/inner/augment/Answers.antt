-- `augment` meets its contract: the gathered rows and the rows below are the augmented matrix.
use mathlib.Core.Path.{◌∙◌}
use native.Mathlib.Nat.{mul-le-mul, le_refl, le-add_right}
use native.Mathlib.Omega.{arith}
use lib.Count.{ones, ones-le}
use Rattle.augment.proofs.Augment.{augmented_is}
use Rattle.augment.proofs.inner.augment.Goals as goal

pub gather-requires : goal.gather-requires
gather-requires c =
    let k = ones c.args.support.0 in
    let kept = c.kept_columns-kept.ensures in
    rw (kept.theta, kept.long) (omega (arith, c.requires.2, mul-le-mul (le-add_right c.args.theta.rows k) (le_refl k)))

pub add_ridge-requires : goal.add_ridge-requires
add_ridge-requires c =
    let kept = c.kept_columns-kept.ensures in
    let few = ones-le c.args.theta.cols c.args.support.0 c.requires.1 in
    (c.requires.0, omega arith, rw kept.long (c.gather.ensures.long ∙ c.requires.2))

pub returns : goal.returns
returns c =
    let theta = c.args.theta in
    let kept = c.kept_columns-kept.ensures in
    rw (← kept.long, ← c.sqrt.ensures.value)
    (augmented_is theta.rows theta.cols c.args.support.0 _ c.sqrt.result _ _ c.args.s.now _ _ kept.long
    (rw kept.long c.requires.2) kept.lists (rw kept.theta at c.gather.ensures) c.add_ridge.ensures)
