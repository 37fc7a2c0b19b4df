-- `add_four` meets its contract: a number of one of the four rows is one of theta.
use mathlib.Core.Path.{◌≡◌}
use Prim.Native.Nat.{ℕ, ◌+◌, ◌*◌, ◌<◌}
use native.Mathlib.Omega.{arith}
use lib.ListN.{length}
use Rattle.places.specs.ThetaLaws.{entry_fits}
use Rattle.leftover.proofs.Walks.{entry_listed, coeff_listed, products_none, products_more, four_more}
use Rattle.leftover.proofs.inner.add_four.Goals.{After-term_of-term_idx}
use Rattle.leftover.proofs.inner.add_four.Goals as goal

pub loop-p-init : goal.loop-p-init
loop-p-init c = (products_none _ _, products_none _ _, products_none _ _, products_none _ _)

pub coeff_of-x-requires : goal.coeff_of-x-requires
coeff_of-x-requires c =
    omega (arith, c.term_of-term_idx.ensures, c.args.fit.kept.names.each _ c.loop-p-test.true)

in-theta : (c : After-term_of-term_idx) (r : ℕ) → r < c.args.i + 4 → r * c.args.fit.kept.theta.cols + c.term_of-term_idx.result.0 < length c.args.fit.kept.theta.numbers.now
in-theta c r l = entry_fits c.args.fit.kept.theta r _ (omega (arith, c.requires)) (omega (arith, c.term_of-term_idx.ensures, c.args.fit.kept.names.each _ c.loop-p-test.true))

pub at_term-requires : goal.at_term-requires
at_term-requires c = in-theta (goal.at.at_term-requires c).After-term_of-term_idx _ (omega arith)

pub at_term-requires-in-loop-p : goal.at_term-requires-in-loop-p
at_term-requires-in-loop-p c = in-theta (goal.at.at_term-requires-in-loop-p c).After-term_of-term_idx _ (omega arith)

pub at_term-requires-in-loop-p-2 : goal.at_term-requires-in-loop-p-2
at_term-requires-in-loop-p-2 c = in-theta (goal.at.at_term-requires-in-loop-p-2 c).After-term_of-term_idx _ (omega arith)

pub at_term-requires-in-loop-p-3 : goal.at_term-requires-in-loop-p-3
at_term-requires-in-loop-p-3 c = in-theta (goal.at.at_term-requires-in-loop-p-3 c).After-term_of-term_idx _ (omega arith)

pub loop-p-preserved : goal.loop-p-preserved
loop-p-preserved c =
    let turn = c.loop-p in
    let p = turn.p in
    let term = c.term_of-term_idx.ensures in
    let value = coeff_listed _ _ p term c.coeff_of-x.ensures in (
      products_more _ _ p turn.invariant.0 (entry_listed _ _ _ p term c.at_term.ensures) value,
      products_more _ _ p turn.invariant.1 (entry_listed _ _ _ p term c.at_term-in-loop-p.ensures) value,
      products_more _ _ p turn.invariant.2 (entry_listed _ _ _ p term c.at_term-in-loop-p-2.ensures) value,
      products_more _ _ p turn.invariant.3 (entry_listed _ _ _ p term c.at_term-in-loop-p-3.ensures) value,
    )

pub returns : goal.returns
returns c =
    let all : c.loop-p.p ≡ length c.args.fit.kept.terms.now = omega arith in
    let sums = rw all at c.loop-p.invariant in
    four_more _ _ _ _ c.args.i c.args.error c.add_square-e.ensures c.add_square-f.ensures c.add_square-g.ensures c.add_square.ensures
    sums.0 sums.1 sums.2 sums.3
