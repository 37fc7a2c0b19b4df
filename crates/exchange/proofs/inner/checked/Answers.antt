-- `checked` answers by its definition's cases. Assumes nothing.
use Rattle.std.proofs.Common.{◌≡◌, ◌∙◌, sym, Some, rules}
use Rattle.reader.specs.Header.{head_of}
use Rattle.exchange.specs.Exchange.{then_rows}
use Rattle.exchange.proofs.inner.checked.Goals as goal

pub returns-in_err-before : goal.returns-in_err-before
unfolding then_rows
returns-in_err-before g c = λ first is.
    let head : head_of c.args.input.now ≡ Some c.in_ok-task.task = sym c.read_header.ensures ∙ c.in_ok-task.ensures.ok_part in
    let e = sym (is _ _ c.before-2.ensures) ∙ c.in_err-before.was in
    rw (head, e) (search rules)

pub returns-in_err-rows : goal.returns-in_err-rows
unfolding then_rows
returns-in_err-rows g c = λ first is.
    let head : head_of c.args.input.now ≡ Some c.in_ok-task.task = sym c.read_header.ensures ∙ c.in_ok-task.ensures.ok_part in
    let e = sym (is _ _ c.before-2.ensures) ∙ c.in_ok-before.was in
    rw (head, e) (search rules)

pub returns : goal.returns
unfolding then_rows
returns g c = λ first is.
    let head : head_of c.args.input.now ≡ Some c.in_ok-task.task = sym c.read_header.ensures ∙ c.in_ok-task.ensures.ok_part in
    let e = sym (is _ _ c.before-2.ensures) ∙ c.in_ok-before.was in
    rw (head, e) (search rules)
