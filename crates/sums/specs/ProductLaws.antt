-- One sum serves (p,q) and (q,p); equal entries give equal sums; a finished matrix is damped as its sums are. Assumes nothing.
use Rattle.std.specs.Prelude.{◌≡◌, refl, Bool, true, false, cond, ℕ, ◌*◌, ◌<◌, eqb, Float}
use Rattle.std.proofs.Common.{ap, ap₂, ◌∙◌, mul_comm}
use Rattle.std.specs.Float.{Format, nan, inf, fin, binary64}
use Rattle.std.specs.Float.Ieee.{mul, round, up, down, unlike}
use Rattle.steps.specs.Num.{times, Entry, cell}
use Rattle.steps.specs.Sums.{sum_cong}
use Rattle.steps.specs.Table.{table, at_table, table_cong}
use Rattle.sums.specs.Products.{gram, moment, damped, jtj_matrix}

unlike_comm : (s t : Bool) → unlike s t ≡ unlike t s
unlike_comm true true = refl
unlike_comm true false = refl
unlike_comm false true = refl
unlike_comm false false = refl

-- a product is the same either way round
pub times_comm : (f : Format) (x y : Float) → mul f x y ≡ mul f y x
unfolding mul
times_comm f nan nan = refl
times_comm f nan (inf t) = refl
times_comm f nan (fin t n d) = refl
times_comm f (inf s) nan = refl
times_comm f (inf s) (inf t) = ap inf (unlike_comm s t)
times_comm f (inf s) (fin t n d) = ap (λ b. cond (eqb n 0) nan (inf b)) (unlike_comm s t)
times_comm f (fin s m e) nan = refl
times_comm f (fin s m e) (inf t) = ap (λ b. cond (eqb m 0) nan (inf b)) (unlike_comm s t)
times_comm f (fin s m e) (fin t n d) =
    ap (λ b. round f b (m * up e * (n * up d)) (down e * down d)) (unlike_comm s t) ∙ ap₂ (round f (unlike t s)) (mul_comm _ _) (mul_comm _ _)

-- the sum goes to both (p,q) and (q,p)
pub gram_both : (e : Entry) (rows p q : ℕ) → gram e rows p q ≡ gram e rows q p
unfolding gram
gram_both e rows p q = sum_cong _ 0 rows _ _ (λ i a b. times_comm binary64 (e i p) (e i q))

-- sums look only at the entries of the rows
pub gram_cong : (e f : Entry) (rows p q : ℕ) → ((i : ℕ) → i < rows → e i p ≡ f i p) → ((i : ℕ) → i < rows → e i q ≡ f i q) → gram e rows p q ≡ gram f rows p q
unfolding gram
gram_cong e f rows p q h k = sum_cong _ 0 rows _ _ (λ i a b. ap₂ times (h i b) (k i b))

pub moment_cong : (e f : Entry) (t : ℕ → Float) (rows p : ℕ) → ((i : ℕ) → i < rows → e i p ≡ f i p) → moment e t rows p ≡ moment f t rows p
unfolding moment
moment_cong e f t rows p h = sum_cong _ 0 rows _ _ (λ i a b. ap (λ (x : Float). times x (t i)) (h i b))

-- equal sums give equal matrices
pub jtj_cong : (damp : Float → Float) (k : ℕ) (g h : Entry) → ((p q : ℕ) → p < k → q < k → g p q ≡ h p q) → jtj_matrix damp k g ≡ jtj_matrix damp k h
unfolding jtj_matrix damped
jtj_cong damp k g h e = table_cong k k _ _ (λ p q hp hq. rw (e p q hp hq))

-- damping the finished matrix damps the sums
pub damped_table : (damp : Float → Float) (k : ℕ) (g : Entry) → jtj_matrix damp k (cell k (table k k g)) ≡ jtj_matrix damp k g
damped_table damp k g = jtj_cong damp k _ _ (λ p q hp hq. at_table k k g p q nan hp hq)
