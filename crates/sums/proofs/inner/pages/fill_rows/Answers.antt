-- `fill_rows` meets its contract: the numbers of theta from row i on, as they stand, are those rows.
use mathlib.Core.Path.{◌≡◌, ◌∙◌}
use Prim.Native.Nat.{◌+◌, ◌*◌}
use native.Mathlib.Omega.{arith}
use lib.Ieee.{nan}
use lib.ListN.{length, get_or-append}
use lib.Seq.{length-take-le}
use Rattle.steps.specs.Space.{at_part}
use Rattle.sums.specs.PageLaws.{holds_rows}
use Rattle.sums.proofs.inner.pages.fill_rows.Goals as goal

pub returns : goal.returns
returns c =
    let a = c.args in
    let m = a.h * a.n_cols in
    let from = a.i * a.n_cols in
    let copied = c.copy.ensures in
    let long : length c.copy.new.to ≡ m = c.copy.auto.to ∙ length-take-le m a.page.now c.requires.1 in
    holds_rows a.theta.now a.n_cols a.i a.h m _ (omega arith) (λ k l.
    get_or-append c.copy.new.to _ nan k (omega arith) ∙ rw copied (at_part from (from + m) a.theta.now k (omega arith)))
