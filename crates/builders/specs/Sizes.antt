-- What the sizes of a call tell that are not refused. Assumes nothing.
use Rattle.std.specs.Prelude.{◌≡◌, refl, not, ℕ, ◌*◌, ltb, eqb, Ok}
use Rattle.std.proofs.Common.{sym, ◌∙◌, ltb-false, eqb-true}
use Rattle.std.proofs.lemmas.Bool.{not-false}
use Rattle.refusal.specs.Answers.{Answer}
use Rattle.refusal.specs.Ladder.{not_refused, both_done}
use Rattle.refusal.specs.declared.Refusal.TheVariants.{ManyColumns, ManyRows, MatrixLength, TargetLength, OutputLength}
use Rattle.sums.specs.Inner.{Matrix}
use Rattle.builders.specs.Calls.{matrix_sizes, jtj_sizes, jtr_sizes}

module _ {rows n matrix : ℕ} {sizes : Answer} where
  pub matrix_fits : sizes ≡ matrix_sizes rows n matrix → sizes ≡ Ok tt → Matrix rows n matrix
  unfolding matrix_sizes
  matrix_fits judged e =
      let few = not_refused (ltb 64 n) ManyColumns _ (sym judged ∙ e) in
      let short = not_refused (ltb 4096 rows) ManyRows _ few.1 in
      let cells = not_refused (not (eqb matrix (rows * n))) MatrixLength _ short.1 in
      record { few_columns = ltb-false _ _ few.0; few_rows = ltb-false _ _ short.0; cells = eqb-true _ _ (not-false _ cells.0) }

module _ {rows n matrix : ℕ} {sizes : Answer} where
  pub jtj_fits : {out : ℕ} → sizes ≡ jtj_sizes rows n matrix out → sizes ≡ Ok tt → Matrix rows n matrix × (out ≡ n * n)
  unfolding jtj_sizes
  jtj_fits {out} judged e =
      let both = both_done (matrix_sizes rows n matrix) _ (sym judged ∙ e) in
      let square = not_refused (not (eqb out (n * n))) OutputLength _ both.1 in
      (matrix_fits refl both.0, eqb-true _ _ (not-false _ square.0))

  pub jtr_fits : {target out : ℕ} → sizes ≡ jtr_sizes rows n matrix target out → sizes ≡ Ok tt → Matrix rows n matrix × (target ≡ rows) × (out ≡ n)
  unfolding jtr_sizes
  jtr_fits {target} {out} judged e =
      let both = both_done (matrix_sizes rows n matrix) _ (sym judged ∙ e) in
      let column = not_refused (not (eqb target rows)) TargetLength _ both.1 in
      let values = not_refused (not (eqb out n)) OutputLength _ column.1 in
      (matrix_fits refl both.0, eqb-true _ _ (not-false _ column.0), eqb-true _ _ (not-false _ values.0))
