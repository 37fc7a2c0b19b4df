-- `damp` meets its contract: a diagonal number more.
use Prim.Native.Nat.{◌+◌, ◌*◌}
use native.Mathlib.Omega.{arith}
use lib.Arith.{digits_lt}
use Rattle.steps.specs.Wrote.{wrote_none, wrote_turn, wrote_end, diagonal_apart}
use Rattle.sums.specs.Inner.{damps}
use Rattle.sums.proofs.Damping.{damped_diagonal}
use Rattle.sums.proofs.inner.damp.Goals as goal

pub loop-p-init : goal.loop-p-init
loop-p-init c = wrote_none _ _ _ _

pub cell-d-requires : goal.cell-d-requires
cell-d-requires c = omega (arith, digits_lt c.loop-p-test.true c.loop-p-test.true)

pub put-requires : goal.put-requires
put-requires c = omega (arith, digits_lt c.loop-p-test.true c.loop-p-test.true)

pub loop-p-preserved : goal.loop-p-preserved
loop-p-preserved c =
    let turn = c.loop-p in
    let test = c.loop-p-test.true in
    let k = c.args.k in
    rw (c.put.ensures, c.damped.ensures, c.cell-d.ensures)
    (wrote_turn (λ p. p * k + p) (λ p. damps c.args.damping) 0 turn.p c.args.out.now turn.out
    (omega arith) (omega (arith, digits_lt test test)) (diagonal_apart k turn.p test) turn.invariant)

pub returns : goal.returns
returns c =
    let end = c.loop-p in
    let out = c.args.out.now in
    damped_diagonal (damps c.args.damping) c.args.k out end.out c.requires (wrote_end _ 0 end.p _ _ out end.out end.invariant (omega arith) (omega arith))
