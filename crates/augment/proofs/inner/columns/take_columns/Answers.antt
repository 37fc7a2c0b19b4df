-- `take_columns` meets its contract: the column of the term that the table lists at place c.
use mathlib.Core.Path.{◌≡◌, refl}
use mathlib.Core.List.{List}
use Prim.Native.Nat.{ℕ, ◌+◌, ◌≤◌, ◌<◌}
use native.Mathlib.Nat.{mul-le-mul_right}
use native.Mathlib.Omega.{arith}
use lib.ListN.{get_or, length}
use lib.Ieee.{Float}
use Rattle.steps.specs.Num.{cell}
use Rattle.steps.specs.Table.{row_fits}
use Rattle.steps.specs.Wrote.{Wrote}
use Rattle.places.specs.declared.Theta.{Theta}
use Rattle.places.specs.Stored.{stored}
use Rattle.places.specs.Columns.{listed}
use Rattle.places.specs.Theta.{by_columns}
use Rattle.places.specs.ThetaLaws.{column_fits}
use Rattle.augment.specs.Taken.{taken_none, taken_more}
use Rattle.augment.proofs.inner.columns.take_columns.Goals as goal

at_place : (theta : Theta) (table : List ℕ) (p : ℕ → ℕ) (i h c : ℕ) {j : ℕ} {s s' : List Float} → j ≡ get_or table c 0
    → Wrote p 0 h (λ k. cell theta.rows theta.numbers.now j (i + k)) s s' → Wrote p 0 h (λ k. listed table (by_columns theta) (i + k) c) s s'
unfolding stored listed
at_place theta table p i h c e w = rw e at w

pub loop-c-init : goal.loop-c-init
loop-c-init c = taken_none _ _ _ _ _

pub overflow_mul-first : goal.overflow_mul-first
overflow_mul-first c =
    let a = c.args in
    let top : a.i ≤ a.reduced.theta.rows = omega arith in
    omega (arith, mul-le-mul_right (length a.reduced.terms.now) top)

pub overflow_add-first : goal.overflow_add-first
overflow_add-first c =
    let a = c.args in
    let names = a.reduced.names in
    let top : a.i ≤ a.reduced.theta.rows = omega arith in
    omega (arith, mul-le-mul_right (length a.reduced.terms.now) top, names.few, names.few_columns)

pub take_column-requires : goal.take_column-requires
take_column-requires c =
    let turn = c.loop-c in
    let a = c.args in
    let kept = a.reduced in
    let taken = c.loop-c-test.true in (
      column_fits kept.theta _ a.i a.h (omega (arith, c.term_of-term_idx.ensures, kept.names.each _ taken)) c.requires.0,
      omega arith,
      λ k l.
          let row : a.i + k < kept.theta.rows = omega arith in
          omega (arith, row_fits kept.theta.rows (length kept.terms.now) (a.i + k) row),
    )

pub loop-c-preserved : goal.loop-c-preserved
loop-c-preserved c =
    let turn = c.loop-c in
    let a = c.args in
    let column = at_place a.reduced.theta a.reduced.terms.now _ a.i a.h turn.c c.term_of-term_idx.ensures c.take_column.ensures in
    taken_more _ _ _ _ turn.c _ _ turn.s _ c.loop-c-test.true refl turn.invariant column

pub returns : goal.returns
returns c =
    let end = c.loop-c in
    let all : end.c ≡ length c.args.reduced.terms.now = omega arith in
    rw all at end.invariant
