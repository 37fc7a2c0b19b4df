-- `solve_normal` meets its contract: the solve from the kept sums, in as much of the workspace as it needs.
use mathlib.Core.Path.{ap, ◌∙◌}
use Prim.Native.Nat.{◌+◌, ◌*◌}
use native.Mathlib.Omega.{arith}
use lib.ListN.{length}
use Rattle.steps.specs.Space.{with_part}
use Rattle.refusal.specs.Answers.{solution}
use Rattle.sums.specs.Inner.{damps}
use Rattle.sums.specs.Kept.{kept_size}
use Rattle.rule.specs.Fits.{by_sums}
use Rattle.rule.specs.Kept.{from_kept}
use Rattle.refit.proofs.Kept.{from_lent, head_left}
use Rattle.refit.proofs.inner.by_normal.solve_normal.Goals as goal

pub returns : goal.returns
unfolding with_part from_kept by_sums
returns c =
    let a = c.args in
    let ws = a.ws.now in
    -- the room of the kept sums and the block
    let room = kept_size a.n_cols + length a.b.now * length a.b.now in
    let made = rw c.few-n_cols.ensures at c.solve_block.ensures in
    let kept = rw c.few-n_cols.ensures at c.solve_block.auto.ws in (
      ap solution made.values ∙ from_lent a.n_cols room ws (omega arith) c.requires.3 (damps a.damping) a.support.0 c.requires.1,
      rw c.few-n_cols.ensures (head_left a.n_cols room ws (omega arith) c.requires.3 c.solve_block.new.ws kept made.kept),
    )
