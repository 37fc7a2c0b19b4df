-- `fill_columns` meets its contract: a column more.
use native.Mathlib.Omega.{arith}
use lib.Arith.{digits_lt}
use Rattle.places.specs.Stored.{stored}
use Rattle.places.specs.Down.{holds_more}
use Rattle.places.specs.ThetaLaws.{column_fits}
use Rattle.sums.specs.PageLaws.{holds_columns}
use Rattle.sums.proofs.inner.columns.fill_columns.Goals as goal

pub take_column-requires : goal.take_column-requires
take_column-requires c =
    let a = c.args in
    let taken = c.loop-j-test.true in
    (column_fits a.theta c.loop-j.j a.i a.h taken c.requires.0, omega arith, λ k l. omega (arith, digits_lt l taken))

pub loop-j-preserved : goal.loop-j-preserved
unfolding stored
loop-j-preserved c =
    let turn = c.loop-j in
    let taken = c.loop-j-test.true in
    holds_more (λ c. c) turn.j _ _ _ _ turn.page _ (λ p l. omega arith) turn.invariant c.take_column.ensures

pub returns : goal.returns
returns c = let end = c.loop-j in holds_columns _ _ _ _ end.j _ (omega arith) end.invariant
