-- `fit_ready` meets its contract: the report, what was seen of the term, and the needed part of the workspace cleared.
use mathlib.Core.Path.{◌≡◌, ◌∙◌}
use Prim.Native.Nat.{◌-◌, ◌≤◌}
use native.Mathlib.Omega.{arith}
use lib.ListN.{length}
use lib.Seq.{length-take-le}
use Rattle.steps.specs.Space.{with_part, cleared_with}
use Rattle.strlsq.proofs.inner.fit_ready.Goals as goal

pub returns : goal.returns
unfolding with_part
returns c =
    let space = c.args.workspace.now in
    let need = c.needed-need.result in
    let made = c.fit_in-watched in
    let room : need ≤ length space = rw c.needed-need.ensures c.requires.space_long in
    let used = made.new.ws in
    let long : length used ≡ need - 0 = made.auto.ws ∙ length-take-le (need - 0) space (omega (arith, room)) in
    (made.ensures.0, made.ensures.1, rw (← c.needed-need.ensures) (c.clear.ensures ∙ cleared_with 0 need need used space (omega arith) (omega arith) room long))
