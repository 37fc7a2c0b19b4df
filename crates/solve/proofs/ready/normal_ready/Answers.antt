-- `normal_ready` meets its contract: what the solve told, and clearing forgets where it stood.
use Rattle.std.proofs.Common.{ℕ, length, ap, ◌∙◌, arith}
use Rattle.std.proofs.lemmas.List.{length-take-le}
use Rattle.steps.specs.Space.{cleared}
use Rattle.solve.proofs.Ends.{cleared_front}
use Rattle.solve.proofs.ready.normal_ready.Goals as goal

pub returns : goal.returns
returns c =
    let cells = c.requires.0.square in
    let space = c.args.workspace.now in
    let long = length c.args.a.now in
    let made = c.normal_equations-solved in
    let head = cleared_front long long made.new.ws space (omega arith) (made.auto.ws ∙ length-take-le long space (omega (arith, c.requires))) in
    (made.ensures, c.clear.ensures ∙ head ∙ ap (λ (k : ℕ). cleared k space) cells)
