-- `run` meets its contract: no data, a first solve that is refused, or the rounds after it. What the fit keeps is there before the first solve.
use mathlib.Core.Path.{◌∙◌}
use Rattle.support.specs.SupportLaws.{full_lt}
use Rattle.first.proofs.First.{all_zeros, no_rows, no_cols, first_refused, first_goes}
use Rattle.first.proofs.inner.run.Goals.{then-given-eq0-via-then-given-eq0, then-given-eq0-via-else-given-eq0+then-n_cols-eq0}
use Rattle.first.proofs.inner.run.Goals as goal

pub returns-then-given-eq0 : goal.returns-then-given-eq0
returns-then-given-eq0 c =
    let g = c.args.given in
    let zeros = all_zeros g.task.cols c.args.coeffs.now c.requires.coeffs_long c.unlooked.ensures.zeros in
    rw (c.unlooked.ensures.stop, c.unlooked.ensures.refits, c.unlooked.ensures.drop)
    (elim c.then-given-eq0.branch [
      | then-given-eq0-via-then-given-eq0 w ↦ no_rows g c.args.term_idx.0 w.if-given-eq0.true zeros
      | then-given-eq0-via-else-given-eq0+then-n_cols-eq0 w ↦ no_cols g c.args.term_idx.0 w.if-given-eq0.false w.if-n_cols-eq0.true zeros
    ])

pub solve_terms-requires : goal.solve_terms-requires
solve_terms-requires c = (
  record { coeffs_long = c.requires.coeffs_long; space_long = rw c.keep.auto.ws c.requires.space_long },
  rw c.full.ensures (full_lt c.args.given.task.cols c.args.given.sized.limited.few_cols),
  c.keep.ensures,
)

pub rounds-requires : goal.rounds-requires
rounds-requires c =
    let g = c.args.given in (
      record { coeffs_long = c.solve_terms.auto.coeffs ∙ c.requires.coeffs_long; space_long = rw (c.solve_terms.auto.ws, c.keep.auto.ws) c.requires.space_long },
      c.solve_terms.ensures.1,
      first_goes g c.args.term_idx.0 c.if-given-eq0.false c.if-n_cols-eq0.false g.sized.limited.few_cols
          c.full.result.0 c.full.ensures c.solve_terms.result c.solve_terms.new.coeffs c.solve_terms.ensures.0 c.in-Ok.is,
    )

pub returns-in-Err : goal.returns-in-Err
returns-in-Err c =
    let g = c.args.given in
    rw (c.unlooked-in-Err.ensures.stop, c.unlooked-in-Err.ensures.refits, c.unlooked-in-Err.ensures.drop)
    (first_refused g c.args.term_idx.0 c.if-given-eq0.false c.if-n_cols-eq0.false g.sized.limited.few_cols
    c.full.result.0 c.full.ensures c.solve_terms.result c.solve_terms.new.coeffs c.solve_terms.ensures.0
    _ _ c.in-Err.is (c.solve_terms.auto.coeffs ∙ c.requires.coeffs_long) c.unlooked-in-Err.ensures.zeros)
