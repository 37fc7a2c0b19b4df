-- `take_row` meets its contract: a number more.
use Prim.Native.Nat.{◌+◌, ◌*◌}
use native.Mathlib.Omega.{arith}
use lib.ListN.{length}
use Rattle.steps.specs.Wrote.{wrote_none, wrote_more, wrote_end}
use Rattle.augment.proofs.inner.take_row.Goals as goal

pub loop-c-init : goal.loop-c-init
loop-c-init c = wrote_none _ _ _ _

pub loop-c-preserved : goal.loop-c-preserved
loop-c-preserved c =
    let turn = c.loop-c in
    let a = c.args in
    rw c.put_at.ensures
    (wrote_more (λ q. a.i * length a.reduced.terms.now + q) 0 turn.c _ a.s.now turn.s _ (omega arith) (omega arith) (λ q h h' e. omega arith) turn.invariant c.at_place-x.ensures)

pub returns : goal.returns
returns c = let end = c.loop-c in wrote_end _ _ end.c _ _ _ _ end.invariant (omega arith) (omega arith)
