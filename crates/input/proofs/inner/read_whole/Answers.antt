-- `read_whole` reads on: what comes then stands behind what came. Assumes nothing.
use Rattle.std.proofs.Common.{◌≡◌, ◌∙◌, sym, ap, Ok, Some, rules}
use Rattle.input.specs.Read.{after_read}
use Rattle.input.proofs.Bytes.{came_more}
use Rattle.input.proofs.inner.read_whole.Goals as goal

pub loop-n-preserved : goal.loop-n-preserved
loop-n-preserved g c =
    let told : after_read c.loop-n.n c.read-got.result ≡ Ok (Some c.in-Some.come) = sym c.after_read.ensures ∙ c.in_ok-come.was ∙ ap Ok c.in-Some.is in
    let more = came_more _ _ _ _ c.loop-n.room c.read-got.new.buf _ _ told c.loop-n.invariant.0 c.read-got.ensures.bound c.loop-n.invariant.2 c.read-got.ensures.bytes in
    (search rules, search rules, more.2)
