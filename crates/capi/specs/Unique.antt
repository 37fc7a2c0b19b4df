-- Each export's contract determines its answer and every number that it leaves. Assumes nothing.
use Rattle.std.specs.Prelude.{None, Some, ◌≡◌, List, ℕ, Float, Result, Option}
use Rattle.float64.specs.Root.{abs_of}
use Rattle.float64.specs.Rule.{SqrtCall}
use Rattle.float64.specs.Unique.{sqrt_unique, abs_unique}
use Rattle.refusal.specs.Answers.{answer_number, Answer}
use Rattle.builders.specs.Calls.{JtjCall, JtrCall}
use Rattle.builders.specs.Unique.{jtj_unique, jtr_unique}
use Rattle.decomp.specs.Calls.{QrCall}
use Rattle.decomp.specs.Unique.{qr_unique}
use Rattle.solve.specs.Calls.{CholeskyCall, LuCall, NormalCall, InvertCall, LeastCall}
use Rattle.solve.specs.Unique.{cholesky_unique, lu_unique, normal_unique, invert_unique, least_unique}
use Rattle.rule.specs.Calls.{FitCall}
use Rattle.rule.specs.Codes.{fitted_number}
use Rattle.rule.specs.Unique.{fit_unique}
use Rattle.rule.specs.declared.Task.{Task}
use Rattle.rule.specs.declared.Solver.{Solver}
use Rattle.exchange.specs.Exchange.{Exchanged}
use Rattle.frames.specs.Exchange.{Exchange}
use Rattle.frames.specs.Unique.{respond_unique}
use Rattle.causes.specs.Exchange.{causes_of}
use Rattle.causes.specs.Unique.{respond_why_unique}
use Rattle.rule.specs.declared.Setup.{Setup}
use Rattle.why.specs.Codes.{caused_number}
use Rattle.why.specs.Unique.{why_unique}
use Rattle.why.specs.declared.Cause.{Cause}
use Rattle.refusal.specs.declared.Refusal.{Refusal}
use Rattle.capi.specs.Numbered.{Numbered, Reported, WithColumn, workspace}
use Rattle.capi.specs.Coded.{WhyCoded, Explained}
use Rattle.places.specs.declared.Layout.{Layout}

pub export_sqrt_unique : (x r s : Float) → SqrtCall x r → SqrtCall x s → r ≡ s
export_sqrt_unique = sqrt_unique

pub export_abs_unique : (x r s : Float) → r ≡ abs_of x → s ≡ abs_of x → r ≡ s
export_abs_unique = abs_unique

-- once over the calls: equal answers have equal numbers
numbered : {A : Type 0} {number_of : A → ℕ} {C D : A → Type 0} {r s : ℕ} (p : Numbered number_of C r) (q : Numbered number_of D s) → p.answer ≡ q.answer → r ≡ s
numbered p q same = cc

module _ (jac : List Float) (rows n : ℕ) (out out' out'' : List Float) (r s : ℕ) where
  pub export_jtj_unique : (damp : Float → Float) → Numbered answer_number (JtjCall damp jac rows n out out') r → Numbered answer_number (JtjCall damp jac rows n out out'') s → (r ≡ s) × (out' ≡ out'')
  export_jtj_unique damp p q =
      let same = jtj_unique damp jac rows n out out' out'' _ _ p.call q.call in
      (numbered p q same.0, same.1)

  pub export_jtr_unique : (t : List Float) → Numbered answer_number (JtrCall jac t rows n out out') r → Numbered answer_number (JtrCall jac t rows n out out'') s → (r ≡ s) × (out' ≡ out'')
  export_jtr_unique t p q =
      let same = jtr_unique jac t rows n out out' out'' _ _ p.call q.call in
      (numbered p q same.0, same.1)

-- each solver, whose column was p and is p' or p''
module _ (p p' p'' : List ℕ) (r s : ℕ) where
  -- equal answers tell one column
  column_same : {C D : Answer → Type 0} (h : Numbered answer_number (WithColumn C p p') r) (k : Numbered answer_number (WithColumn D p p'') s) → h.answer ≡ k.answer → (r ≡ s) × (p' ≡ p'')
  column_same h k same = (numbered h k same, cc)

  pub export_cholesky_unique : (a b : List Float) (n : ℕ) (a' b' a'' b'' : List Float)
      → Numbered answer_number (WithColumn (CholeskyCall a b n a' b') p p') r → Numbered answer_number (WithColumn (CholeskyCall a b n a'' b'') p p'') s
      → ((r ≡ s) × (p' ≡ p'')) × (a' ≡ a'') × (b' ≡ b'')
  export_cholesky_unique a b n a' b' a'' b'' h k =
      let same = cholesky_unique a b n a' b' a'' b'' _ _ h.call.solve k.call.solve in
      (column_same h k same.0, same.1, same.2)

  pub export_lu_unique : (a b : List Float) (n : ℕ) (a' b' a'' b'' : List Float)
      → Numbered answer_number (WithColumn (LuCall a b n a' b') p p') r → Numbered answer_number (WithColumn (LuCall a b n a'' b'') p p'') s
      → ((r ≡ s) × (p' ≡ p'')) × (a' ≡ a'') × (b' ≡ b'')
  export_lu_unique a b n a' b' a'' b'' h k =
      let same = lu_unique a b n a' b' a'' b'' _ _ h.call.solve k.call.solve in
      (column_same h k same.0, same.1, same.2)

  pub export_normal_unique : (a b : List Float) (n : ℕ) (w b' w' b'' w'' : List Float)
      → Numbered answer_number (WithColumn (NormalCall a b n b' w w') p p') r → Numbered answer_number (WithColumn (NormalCall a b n b'' w w'') p p'') s
      → ((r ≡ s) × (p' ≡ p'')) × (b' ≡ b'') × (w' ≡ w'')
  export_normal_unique a b n w b' w' b'' w'' h k =
      let same = normal_unique a b n w b' w' b'' w'' _ _ h.call.solve k.call.solve in
      (column_same h k same.0, same.1, same.2)

  pub export_invert_unique : (a : List Float) (n : ℕ) (o w o' w' o'' w'' : List Float)
      → Numbered answer_number (WithColumn (InvertCall a n o o' w w') p p') r → Numbered answer_number (WithColumn (InvertCall a n o o'' w w'') p p'') s
      → ((r ≡ s) × (p' ≡ p'')) × (o' ≡ o'') × (w' ≡ w'')
  export_invert_unique a n o w o' w' o'' w'' h k =
      let same = invert_unique a n o w o' w' o'' w'' _ _ h.call.solve k.call.solve in
      (column_same h k same.0, same.1, same.2)

  pub export_least_unique : (a b : List Float) (m n : ℕ) (o w o' w' o'' w'' : List Float)
      → Numbered answer_number (WithColumn (LeastCall a b m n o o' w w') p p') r → Numbered answer_number (WithColumn (LeastCall a b m n o o'' w w'') p p'') s
      → ((r ≡ s) × (p' ≡ p'')) × (o' ≡ o'') × (w' ≡ w'')
  export_least_unique a b m n o w o' w' o'' w'' h k =
      let same = least_unique a b m n o w o' w' o'' w'' _ _ h.call.solve k.call.solve in
      (column_same h k same.0, same.1, same.2)

pub export_qr_unique : (a : List Float) (m n : ℕ) (d b w d' b' w' d'' b'' w'' : List Float) (r s : ℕ)
    → Numbered answer_number (QrCall a m n d d' b b' w w') r → Numbered answer_number (QrCall a m n d d'' b b'' w w'') s
    → (r ≡ s) × (d' ≡ d'') × (b' ≡ b'') × (w' ≡ w'')
export_qr_unique a m n d b w d' b' w' d'' b'' w'' r s p q =
    let same = qr_unique a m n d b w d' b' w' d'' b'' w'' _ _ p.call q.call in
    (numbered p q same.0, same.1, same.2, same.3)

module _ (task : Task) (theta target cs w cs' w' cs'' w'' : List Float) (p p' p'' : List ℕ) (e e' e'' : List Float) where
  pub export_fit_unique : (r s : ℕ)
      → Numbered fitted_number (Reported (FitCall task theta target cs cs' w w') p p' e e') r
      → Numbered fitted_number (Reported (FitCall task theta target cs cs'' w w'') p p'' e e'') s → (r ≡ s) × (cs' ≡ cs'') × (w' ≡ w'') × (p' ≡ p'') × (e' ≡ e'')
  export_fit_unique r s h k =
      let same = fit_unique task theta target cs w cs' w' cs'' w'' _ _ h.call.fit k.call.fit in
      let answers = same.0 in
      (numbered h k answers, same.1, same.2, cc, cc)

-- by any code: an unknown one leaves no choice either
coded_unique : (k : Option (Layout × Solver)) (rows n : ℕ) (setup : Setup) (j : ℕ) (theta target cs w cs' w' cs'' w'' : List Float) (r s : Result Cause Refusal)
    → WhyCoded k rows n setup j theta target cs cs' w w' r → WhyCoded k rows n setup j theta target cs cs'' w w'' s → (r ≡ s) × (cs' ≡ cs'') × (w' ≡ w'')
coded_unique (Some (layout, solver)) rows n setup j theta target cs w cs' w' cs'' w'' r s p q = why_unique _ j theta target cs w cs' w' cs'' w'' r s p q
coded_unique None rows n setup j theta target cs w cs' w' cs'' w'' r s p q = (cc, cc, cc)

module _ (k : Option (Layout × Solver)) (rows n : ℕ) (setup : Setup) (j : ℕ) (theta target cs w cs' w' cs'' w'' : List Float) (p p' p'' : List ℕ) (v v' v'' : List Float) where
  pub export_why_unique : (r s : ℕ)
      → Numbered caused_number (Explained (WhyCoded k rows n setup j theta target cs cs' w w') p p' v v') r
      → Numbered caused_number (Explained (WhyCoded k rows n setup j theta target cs cs'' w w'') p p'' v v'') s
      → (r ≡ s) × (cs' ≡ cs'') × (w' ≡ w'') × (p' ≡ p'') × (v' ≡ v'')
  export_why_unique r s h i =
      let same = coded_unique k rows n setup j theta target cs w cs' w' cs'' w'' _ _ h.call.why i.call.why in
      let answers = same.0 in
      (numbered h i answers, same.1, same.2, cc, cc)

pub export_workspace_unique : (solver : Solver) (rows n r s : ℕ) → r ≡ workspace solver rows n → s ≡ workspace solver rows n → r ≡ s
export_workspace_unique solver rows n r s p q = cc

pub export_respond_unique : (input was out out' : List ℕ) (r s : ℕ) → Exchange input was out r → Exchange input was out' s → (r ≡ s) × (out ≡ out')
export_respond_unique = respond_unique

pub export_respond_why_unique : (input was out out' : List ℕ) (r s : ℕ) → Exchanged causes_of input was out r → Exchanged causes_of input was out' s → (r ≡ s) × (out ≡ out')
export_respond_why_unique = respond_why_unique
