-- The error looks only at the entries of its rows and its kept columns, and at the coefficients of its kept terms. Assumes nothing.
use Rattle.std.specs.Prelude.{◌≡◌, refl, List, ℕ, ◌^◌, ◌<◌, Float}
use Rattle.std.proofs.Common.{ap, ap₂, ◌∙◌}
use Rattle.std.specs.Int.Count.{ones}
use Rattle.steps.specs.Num.{less, times, +zero, at, Entry}
use Rattle.steps.specs.Sums.{sum, sum_none, sum_cong}
use Rattle.support.specs.Word.{term}
use Rattle.support.specs.TermLaws.{term_below}
use Rattle.places.specs.Columns.{columns, Lists, listed}
use Rattle.places.specs.ColumnLaws.{listed_is}
use Rattle.leftover.specs.Error.{products, leftover, square, squares, squared_error, listed_coeffs}

-- the squares look only at the entries of their rows and columns, and at these columns' coefficients
pub squares_cong : (rows k : ℕ) (e f : Entry) (t : ℕ → Float) (cs ds : ℕ → Float) → ((i p : ℕ) → i < rows → p < k → e i p ≡ f i p) → ((p : ℕ) → p < k → cs p ≡ ds p)
    → squares rows k e t cs ≡ squares rows k f t ds
unfolding squares leftover products
squares_cong rows k e f t cs ds h g =
    sum_cong +zero 0 rows _ _ (λ i a l. ap (λ (x : Float). square (less (t i) x)) (sum_cong +zero 0 k _ _ (λ p b m. ap₂ times (h i p l m) (g p m))))

-- so does the error of a word's terms, if they are columns
pub error_cong : (rows n : ℕ) (e f : Entry) (t : ℕ → Float) (w : ℕ) (cs : List Float) → w < 2 ^ n → ((i j : ℕ) → i < rows → j < n → e i j ≡ f i j)
    → squared_error rows n e t w cs ≡ squared_error rows n f t w cs
unfolding squared_error columns
error_cong rows n e f t w cs b h = squares_cong rows (ones w) _ _ t _ _ (λ i p l m. h i (term n w p) l (term_below n w p b m)) (λ p m. refl)

-- a table of the kept terms lists their columns and coefficients
pub error_listed : (rows n k : ℕ) (e : Entry) (t : ℕ → Float) (w : ℕ) (cs : List Float) (table : List ℕ) {r : Float} → Lists n w table → k ≡ ones w
    → r ≡ squares rows k (listed table e) t (listed_coeffs table cs) → r ≡ squared_error rows n e t w cs
unfolding squared_error listed_coeffs
error_listed rows n k e t w cs table l q p =
    p
    ∙ ap (λ (m : ℕ). squares rows m (listed table e) t (listed_coeffs table cs)) q
    ∙ squares_cong rows (ones w) _ _ t _ _ (λ i p a b. listed_is n w table l e i p b) (λ p b. ap (at cs) (l.each p b))

-- with no rows it is +0.0
pub without_rows : (n : ℕ) (e : Entry) (t : ℕ → Float) (w : ℕ) (cs : List Float) → squared_error 0 n e t w cs ≡ +zero
unfolding squared_error squares
without_rows n e t w cs = sum_none +zero 0 _

-- with nothing kept the squares of the target, each number less the sum of no products
pub none_kept : (rows n : ℕ) (e : Entry) (t : ℕ → Float) (cs : List Float) → squared_error rows n e t 0 cs ≡ sum +zero 0 rows (λ i. square (less (t i) +zero))
unfolding squared_error squares leftover products ones
none_kept rows n e t cs = sum_cong +zero 0 rows _ _ (λ i a l. ap (λ (x : Float). square (less (t i) x)) (sum_none +zero 0 _))
