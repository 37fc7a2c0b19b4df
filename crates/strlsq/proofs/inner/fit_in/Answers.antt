-- `fit_in` meets its contract: the rounds, the last pass, and what was seen of the term.
use mathlib.Core.Path.{ap, ◌∙◌}
use mathlib.Core.List.{List}
use lib.Ieee.{Float}
use Rattle.steps.specs.Num.{at}
use Rattle.strlsq.proofs.Report.{ends}
use Rattle.strlsq.proofs.inner.fit_in.Goals as goal

pub returns : goal.returns
returns c =
    let g = c.args.given in
    let ran = c.run-ran in
    let came = ran.new.coeffs in
    let long = ran.auto.coeffs ∙ c.requires.coeffs_long in (
      ends g.task g.theta.now g.target.now ran.result.stop ran.result.refits came c.prune.new.coeffs long ran.ensures c.prune.ensures,
      record { drops = ran.ensures.drops; value = c.coefficient-last.ensures ∙ ap (λ (x : List Float). at x c.args.term_idx.0) ran.ensures.leaves },
    )
