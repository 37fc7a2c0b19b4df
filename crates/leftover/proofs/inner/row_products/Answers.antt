-- `row_products` meets its contract: a term more is a product more.
use mathlib.Core.Path.{◌≡◌}
use native.Mathlib.Omega.{arith}
use lib.ListN.{length}
use Rattle.leftover.proofs.Walks.{coeff_listed, products_none, products_more}
use Rattle.leftover.proofs.inner.row_products.Goals as goal

pub loop-p-init : goal.loop-p-init
loop-p-init c = products_none _ _

pub coeff_of-requires : goal.coeff_of-requires
coeff_of-requires c =
    omega (arith, c.term_of.ensures, c.args.fit.kept.names.each _ c.loop-p-test.true)

pub loop-p-preserved : goal.loop-p-preserved
loop-p-preserved c =
    let turn = c.loop-p in
    products_more _ _ turn.p turn.invariant c.at_place-x.ensures (coeff_listed _ _ turn.p c.term_of.ensures c.coeff_of.ensures)

pub returns : goal.returns
returns c =
    let all : c.loop-p.p ≡ length c.args.fit.kept.terms.now = omega arith in
    rw all at c.loop-p.invariant
