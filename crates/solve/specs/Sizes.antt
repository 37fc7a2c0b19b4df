-- What the sizes of a solver tell that are not refused. Assumes nothing.
use Rattle.std.specs.Prelude.{Ok, ◌≡◌, refl, not, ℕ, ◌+◌, ◌*◌, ◌≤◌, ltb, eqb}
use Rattle.std.proofs.Common.{sym, ◌∙◌, ltb-false, eqb-true}
use Rattle.std.proofs.lemmas.Bool.{not-false}
use Rattle.refusal.specs.Ladder.{not_refused, both_done}
use Rattle.refusal.specs.Answers.{Answer}
use Rattle.refusal.specs.declared.Refusal.TheVariants.{ManyColumns, ManyRows, MatrixLength, TargetLength, OutputLength, FewRows, WorkspaceShort}
use Rattle.solve.specs.Calls.{square_sizes, normal_sizes, invert_sizes, least_need, least_sizes}

-- a square solver's
pub record Square (n matrix right : ℕ) : Type 0 where
  pub few : n ≤ 64
  pub square : matrix ≡ n * n
  pub column : right ≡ n

pub square_fits : {n matrix right : ℕ} {sizes : Answer} → sizes ≡ square_sizes n matrix right → sizes ≡ Ok tt → Square n matrix right
unfolding square_sizes
square_fits {n} {matrix} {right} judged e =
    let few = not_refused (ltb 64 n) ManyColumns _ (sym judged ∙ e) in
    let square = not_refused (not (eqb matrix (n * n))) MatrixLength _ few.1 in
    let column = not_refused (not (eqb right n)) TargetLength _ square.1 in
    record { few = ltb-false _ _ few.0; square = eqb-true _ _ (not-false _ square.0); column = eqb-true _ _ (not-false _ column.0) }

-- with the workspace of the normal equations
pub normal_fits : {n matrix right space : ℕ} {sizes : Answer} → sizes ≡ normal_sizes n matrix right space → sizes ≡ Ok tt → Square n matrix right × (n * n ≤ space)
unfolding normal_sizes
normal_fits {n} {matrix} {right} {space} judged e =
    let both = both_done (square_sizes n matrix right) _ (sym judged ∙ e) in
    (square_fits refl both.0, ltb-false _ _ (not_refused (ltb space (n * n)) WorkspaceShort _ both.1).0)

-- the inverse's
pub record InvertSized (n matrix out : ℕ) : Type 0 where
  pub few : n ≤ 64
  pub square : matrix ≡ n * n
  pub alike : out ≡ n * n

pub invert_fits : {n matrix out space : ℕ} {sizes : Answer} → sizes ≡ invert_sizes n matrix out space → sizes ≡ Ok tt → InvertSized n matrix out × (n * n + n ≤ space)
unfolding invert_sizes
invert_fits {n} {matrix} {out} {space} judged e =
    let few = not_refused (ltb 64 n) ManyColumns _ (sym judged ∙ e) in
    let square = not_refused (not (eqb matrix (n * n))) MatrixLength _ few.1 in
    let alike = not_refused (not (eqb out (n * n))) OutputLength _ square.1 in
    let room = not_refused (ltb space (n * n + n)) WorkspaceShort _ alike.1 in
    (record { few = ltb-false _ _ few.0; square = eqb-true _ _ (not-false _ square.0); alike = eqb-true _ _ (not-false _ alike.0) }, ltb-false _ _ room.0)

-- least squares'
pub record LeastSized (m n matrix right out : ℕ) : Type 0 where
  pub few_columns : n ≤ 64
  pub few_rows : m ≤ 4160
  pub cells : matrix ≡ m * n
  pub column : right ≡ m
  pub values : out ≡ n
  pub tall : n ≤ m

pub least_fits : {m n matrix right out space : ℕ} {sizes : Answer} → sizes ≡ least_sizes m n matrix right out space → sizes ≡ Ok tt → LeastSized m n matrix right out × (least_need m n ≤ space)
unfolding least_sizes
least_fits {m} {n} {matrix} {right} {out} {space} judged e =
    let few = not_refused (ltb 64 n) ManyColumns _ (sym judged ∙ e) in
    let short = not_refused (ltb 4160 m) ManyRows _ few.1 in
    let cells = not_refused (not (eqb matrix (m * n))) MatrixLength _ short.1 in
    let column = not_refused (not (eqb right m)) TargetLength _ cells.1 in
    let values = not_refused (not (eqb out n)) OutputLength _ column.1 in
    let tall = not_refused (ltb m n) FewRows _ values.1 in
    let room = not_refused (ltb space (least_need m n)) WorkspaceShort _ tall.1 in (
      record {
        few_columns = ltb-false _ _ few.0;
        few_rows = ltb-false _ _ short.0;
        cells = eqb-true _ _ (not-false _ cells.0);
        column = eqb-true _ _ (not-false _ column.0);
        values = eqb-true _ _ (not-false _ values.0);
        tall = ltb-false _ _ tall.0;
      },
      ltb-false _ _ room.0,
    )
