-- What the sizes of `qr` tell that are not refused. Assumes nothing.
use Rattle.std.specs.Prelude.{◌≡◌, not, ℕ, ◌*◌, ◌≤◌, ltb, eqb, Ok}
use Rattle.std.proofs.Common.{sym, ◌∙◌, ltb-false, eqb-true}
use Rattle.std.proofs.lemmas.Bool.{not-false}
use Rattle.refusal.specs.Ladder.{not_refused}
use Rattle.refusal.specs.Answers.{Answer}
use Rattle.refusal.specs.declared.Refusal.TheVariants.{ManyColumns, ManyRows, MatrixLength, OutputLength, FewRows, WorkspaceShort}
use Rattle.decomp.specs.Calls.{qr_sizes}

-- m rows and n columns, no more columns than rows, and outputs of their lengths
pub record QrSized (m n matrix «data» betas : ℕ) : Type 0 where
  pub few_columns : n ≤ 64
  pub few_rows : m ≤ 4160
  pub cells : matrix ≡ m * n
  pub factor : «data» ≡ m * n
  pub scales : betas ≡ n
  pub tall : n ≤ m

pub qr_fits : {m n matrix «data» betas space : ℕ} {sizes : Answer} → sizes ≡ qr_sizes m n matrix «data» betas space → sizes ≡ Ok tt → QrSized m n matrix «data» betas × (m ≤ space)
unfolding qr_sizes
qr_fits {m} {n} {matrix} {«data»} {betas} {space} judged e =
    let few = not_refused (ltb 64 n) ManyColumns _ (sym judged ∙ e) in
    let short = not_refused (ltb 4160 m) ManyRows _ few.1 in
    let cells = not_refused (not (eqb matrix (m * n))) MatrixLength _ short.1 in
    let factor = not_refused (not (eqb «data» (m * n))) OutputLength _ cells.1 in
    let scales = not_refused (not (eqb betas n)) OutputLength _ factor.1 in
    let tall = not_refused (ltb m n) FewRows _ scales.1 in
    let room = not_refused (ltb space m) WorkspaceShort _ tall.1 in (
      record {
        few_columns = ltb-false _ _ few.0;
        few_rows = ltb-false _ _ short.0;
        cells = eqb-true _ _ (not-false _ cells.0);
        factor = eqb-true _ _ (not-false _ factor.0);
        scales = eqb-true _ _ (not-false _ scales.0);
        tall = ltb-false _ _ tall.0;
      },
      ltb-false _ _ room.0,
    )
