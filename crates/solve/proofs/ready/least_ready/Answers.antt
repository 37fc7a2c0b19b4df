-- `least_ready` meets its contract: what the solve told, and clearing forgets where it stood.
use Rattle.std.proofs.Common.{◌+◌, ◌*◌, length, ◌∙◌, rules, arith}
use Rattle.std.proofs.lemmas.List.{length-take-le}
use Rattle.solve.specs.Calls.{least_need}
use Rattle.solve.proofs.Ends.{cleared_front}
use Rattle.solve.proofs.ready.least_ready.Goals as goal

pub slice_bounds-least_into-end : goal.slice_bounds-least_into-end
unfolding least_need
slice_bounds-least_into-end c = search rules

pub slice_bounds-least_into-end-2 : goal.slice_bounds-least_into-end-2
unfolding least_need
slice_bounds-least_into-end-2 c = search rules

pub least_into-answer-requires : goal.least_into-answer-requires
unfolding least_need
least_into-answer-requires c = search rules

pub returns : goal.returns
unfolding least_need
returns c =
    let args = c.args in
    let space = args.workspace.now in
    let end = length args.a.now + args.m in
    let made = c.least_into-answer in
    let head = cleared_front end (args.m * args.n + 2 * args.m + 2 * args.n) made.new.ws space (omega (arith, c.requires.0.cells)) (made.auto.ws ∙ length-take-le end space (omega (arith, c.requires.0.cells, c.requires.1))) in
    (made.ensures, c.clear.ensures ∙ rw c.least_need.ensures head)
