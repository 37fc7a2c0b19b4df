-- A walk over the listed terms of a row, and over the rows: what the sums are before the first, and after more. Assumes nothing.
use mathlib.Core.Path.{◌≡◌, sym, ap, ap₂, ◌∙◌}
use mathlib.Core.List.{List}
use Prim.Native.Nat.{ℕ, ◌+◌, ◌<◌}
use native.Mathlib.Nat.{add-zero}
use native.Mathlib.Omega.{arith}
use lib.ListN.{get_or, replicate, get_or-replicate}
use lib.Ieee.{Float}
use Rattle.steps.specs.Num.{plus, less, times, +zero, at, Entry}
use Rattle.steps.specs.Space.{cleared, at_cleared}
use Rattle.steps.specs.Sums.{sum, sum_none, sum_more, sum_cong, sum_on}
use Rattle.steps.specs.Wrote.{Wrote}
use Rattle.places.specs.Columns.{listed}
use Rattle.leftover.specs.Error.{products, RowSums, leftover, square, squares, listed_coeffs}

-- what stands at the term of a place is what is listed there
pub entry_listed : (table : List ℕ) (e : Entry) (i p : ℕ) {j : ℕ} {x : Float} → j ≡ get_or table p 0 → x ≡ e i j → x ≡ listed table e i p
unfolding listed
entry_listed table e i p q r = r ∙ ap (e i) q

pub coeff_listed : (table : List ℕ) (cs : List Float) (p : ℕ) {j : ℕ} {x : Float} → j ≡ get_or table p 0 → x ≡ at cs j → x ≡ listed_coeffs table cs p
unfolding listed_coeffs
coeff_listed table cs p q r = r ∙ ap (at cs) q

module _ (row cs : ℕ → Float) where
  -- no term yet, and a term more
  pub products_none : +zero ≡ products 0 row cs
  unfolding products
  products_none = sym (sum_none _ _ _)

  pub products_more : (p : ℕ) {s x y : Float} → s ≡ products p row cs → x ≡ row p → y ≡ cs p → plus s (times x y) ≡ products (p + 1) row cs
  unfolding products
  products_more p e q r = sum_more +zero 0 p _ (omega arith) e (ap₂ times q r)

module _ (k : ℕ) (e : Entry) (t cs : ℕ → Float) where
  -- no row yet, and a row more
  pub rows_none : +zero ≡ squares 0 k e t cs
  unfolding squares
  rows_none = sym (sum_none _ _ _)

  pub row_more : (i : ℕ) {z x y : Float} → z ≡ squares i k e t cs → x ≡ t i → y ≡ products k (e i) cs → plus z (square (less x y)) ≡ squares (i + 1) k e t cs
  unfolding squares leftover
  row_more i p q r = sum_more +zero 0 i _ (omega arith) p (ap₂ (λ (x y : Float). square (less x y)) q r)

  -- four rows more, one after the other: a, b, c and d are the sums of their products
  pub four_more : (i : ℕ) (z : Float) {a b c d x y u v : Float}
      → x ≡ plus z (square (less (t i) a)) → y ≡ plus x (square (less (t (i + 1)) b)) → u ≡ plus y (square (less (t (i + 2)) c)) → v ≡ plus u (square (less (t (i + 3)) d))
      → a ≡ products k (e i) cs → b ≡ products k (e (i + 1)) cs → c ≡ products k (e (i + 2)) cs → d ≡ products k (e (i + 3)) cs
      → v ≡ sum z 0 4 (λ h. square (leftover k e t cs (i + h)))
  unfolding leftover
  four_more i z ex ey eu ev p q r s =
      let f : ℕ → Float = λ h. square (leftover k e t cs (i + h)) in
      let here : i + 0 ≡ i = add-zero i in
      let first = ex ∙ sum_more z 0 0 f (omega arith) (sym (sum_none z 0 f)) (rw (here, p)) in
      let second = ey ∙ sum_more z 0 1 f (omega arith) first (rw q) in
      let third = eu ∙ sum_more z 0 2 f (omega arith) second (rw r) in
      ev ∙ sum_more z 0 3 f (omega arith) third (rw s)

  pub rows_more : (i : ℕ) {z r : Float} → z ≡ squares i k e t cs → r ≡ sum z 0 4 (λ h. square (leftover k e t cs (i + h))) → r ≡ squares (i + 4) k e t cs
  unfolding squares
  rows_more i p q = q ∙ ap (λ (x : Float). sum x 0 4 (λ h. square (leftover k e t cs (i + h)))) p ∙ sym (sum_on +zero i 4 _)

  -- the last row is passed
  pub rows_end : (i rows : ℕ) {z : Float} → z ≡ squares i k e t cs → i ≡ rows → z ≡ squares rows k e t cs
  rows_end i rows p q = p ∙ ap (λ (m : ℕ). squares m k e t cs) q

-- the sums of h rows side by side: before the first term, after one more, and their squares
module _ (e : Entry) (cs : ℕ → Float) (i h : ℕ) where
  pub sums_none : (s : List Float) → RowSums 0 e cs i h (cleared h s)
  sums_none s = record { each = λ m l. at_cleared h m s l ∙ products_none (e (i + m)) cs }

  pub sums_filled : (s : List Float) → s ≡ replicate h +zero → RowSums 0 e cs i h s
  sums_filled s q = record { each = λ m l. rw (q, get_or-replicate) (products_none (e (i + m)) cs) }

  pub sums_more : (p : ℕ) (s s' : List Float) (column : ℕ → Float) {x : Float} → RowSums p e cs i h s → Wrote (λ m. m) 0 h (λ m. plus (at s m) (times (column m) x)) s s'
      → ((m : ℕ) → column m ≡ e (i + m) p) → x ≡ cs p → RowSums (p + 1) e cs i h s'
  sums_more p s s' column was w is_column is_x = record { each = λ m l. w.done m (omega arith) l ∙ products_more (e (i + m)) cs p (was.each m l) (is_column m) is_x }

  pub page_more : (k : ℕ) (t : ℕ → Float) (ts s : List Float) {z r : Float} → RowSums k e cs i h s → ((m : ℕ) → m < h → at ts m ≡ t (i + m)) → z ≡ squares i k e t cs
      → r ≡ sum z 0 h (λ m. square (less (at ts m) (at s m))) → r ≡ squares (i + h) k e t cs
  unfolding squares leftover
  page_more k t ts s {z} o g p q =
      q
      ∙ sum_cong z 0 h _ _ (λ m a l. ap₂ (λ (x y : Float). square (less x y)) (g m l) (o.each m l))
      ∙ ap (λ (x : Float). sum x 0 h (λ m. square (leftover k e t cs (i + m)))) p
      ∙ sym (sum_on +zero i h _)
