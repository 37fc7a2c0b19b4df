-- `inverse_of` meets its contract: each unit column went through both substitutions.
use Rattle.std.proofs.Common.{ap, ◌∙◌}
use Rattle.cholesky.specs.Cholesky.{chol_forward, chol_back}
use Rattle.inverse.specs.Inverse.{inverse_column}
use Rattle.inverse.proofs.ColumnLaws.{columns_inverse}
use Rattle.inverse.proofs.inner.inverse_of.Goals as goal

pub returns : goal.returns
unfolding inverse_column
returns c =
    let n = c.args.l.n in
    let l = c.args.l.numbers.now in
    columns_inverse n l _
    record {
      square = c.back_rows.ensures.square;
      each = λ j h.
          c.back_rows.ensures.each j h
          ∙ ap (chol_back n l) (c.forward_rows.ensures.each j h ∙ ap (chol_forward n l) (c.units.ensures.each j h));
    }
