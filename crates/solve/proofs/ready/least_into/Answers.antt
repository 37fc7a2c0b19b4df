-- `least_into` meets its contract: what the solve told.
use Rattle.std.proofs.Common.{◌≡◌, ◌+◌, ◌-◌, length, ◌∙◌, arith}
use Rattle.std.proofs.lemmas.Result.{err_from_is_err_and}
use Rattle.refusal.specs.declared.Refusal.TheVariants.{SmallPivot}
use Rattle.solve.proofs.Ends.{mapped, least_stops, least_solves}
use Rattle.solve.proofs.ready.least_into.Goals as goal

pub returns-in_err-map_err : goal.returns-in_err-map_err
returns-in_err-map_err c =
    let p = err_from_is_err_and c.from_residual.result c.from_residual.ensures.1 in
    let was = c.in_err-map_err.was in
    let i = mapped SmallPivot c.least_of.result c.map_err.result (λ c y e. e) c.map_err.ensures.cases in
    rw (p.1, p.2, ← was) (least_stops _ _ _ i was c.least_of.ensures)

pub returns : goal.returns
returns c =
    let args = c.args in
    let cells = c.requires.0.cells in
    let wide : length args.a.now + args.n - length args.a.now ≡ args.n = omega arith in
    let i = mapped SmallPivot c.least_of.result c.map_err.result (λ c y e. e) c.map_err.ensures.cases in
    least_solves _ _ _ i c.in_ok-map_err.was c.least_of.ensures (c.copy.ensures ∙ rw (wide, cells))
