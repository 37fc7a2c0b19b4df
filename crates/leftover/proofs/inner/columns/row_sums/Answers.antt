-- `row_sums` meets its contract: the sums take a term more.
use mathlib.Core.Path.{◌≡◌, refl}
use Prim.Native.Nat.{◌+◌}
use native.Mathlib.Omega.{arith}
use lib.ListN.{length}
use Rattle.places.specs.Stored.{stored}
use Rattle.places.specs.Theta.{by_columns}
use Rattle.leftover.specs.Fits.{kept_entries}
use Rattle.leftover.proofs.Walks.{entry_listed, coeff_listed, sums_filled, sums_more}
use Rattle.leftover.proofs.inner.columns.row_sums.Goals as goal

pub loop-p-init : goal.loop-p-init
loop-p-init c = sums_filled _ _ _ _ _ (c.fill.ensures.after (λ y e. e))

pub coeff_of-x-requires : goal.coeff_of-x-requires
coeff_of-x-requires c =
    omega (arith, c.term_of-term_idx.ensures, c.args.fit.kept.names.each _ c.loop-p-test.true)

pub add_term-requires : goal.add_term-requires
add_term-requires c =
    (omega (arith, c.term_of-term_idx.ensures, c.args.fit.kept.names.each _ c.loop-p-test.true), omega arith)

pub loop-p-preserved : goal.loop-p-preserved
unfolding stored
loop-p-preserved c =
    let turn = c.loop-p in
    let a = c.args in
    let kept = a.fit.kept in
    let long : length turn.sums ≡ length a.sums.now = omega arith in
    sums_more (kept_entries by_columns a.fit) _ a.i _ turn.p turn.sums _ _ turn.invariant (rw long at c.add_term.ensures)
    (λ m. entry_listed kept.terms.now (by_columns kept.theta) (a.i + m) turn.p c.term_of-term_idx.ensures refl)
    (coeff_listed kept.terms.now a.fit.coeffs.now turn.p c.term_of-term_idx.ensures c.coeff_of-x.ensures)

pub returns : goal.returns
returns c =
    let all : c.loop-p.p ≡ length c.args.fit.kept.terms.now = omega arith in
    rw all at c.loop-p.invariant
