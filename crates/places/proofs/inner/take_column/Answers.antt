-- `take_column` meets its contract: each place is met once.
use Prim.Native.Nat.{ℕ, ◌+◌, ◌*◌, ◌<◌}
use native.Mathlib.Omega.{arith}
use Rattle.steps.specs.Table.{row_fits}
use Rattle.steps.specs.Wrote.{Apart, wrote_none, wrote_more, wrote_end}
use Rattle.places.proofs.inner.take_column.Goals as goal

steps_apart : (width first i : ℕ) → 0 < width → Apart (λ k. k * width + first) 0 i
steps_apart width first i b k l l' e = omega (arith, row_fits i width k l')

pub loop-k-init : goal.loop-k-init
loop-k-init c = wrote_none _ _ _ _

pub loop-k-preserved : goal.loop-k-preserved
loop-k-preserved c =
    let turn = c.loop-k in
    let a = c.args in
    let room = c.requires.2 turn.k (omega arith) in
    rw c.put.ensures
    (wrote_more (λ q. q * a.width + a.first) 0 turn.k _ a.page.now turn.page _ (omega arith) room (steps_apart a.width a.first turn.k c.requires.1) turn.invariant c.at_column-x.ensures)

pub returns : goal.returns
returns c = let end = c.loop-k in wrote_end _ _ end.k _ _ _ _ end.invariant (omega arith) (omega arith)
