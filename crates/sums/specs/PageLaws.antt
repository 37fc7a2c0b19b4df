-- A page holds rows of theta; the sums before the first row, after one page more, and at the end. Assumes nothing.
use Rattle.std.specs.Prelude.{◌≡◌, List, ℕ, ◌+◌, ◌*◌, ◌≤◌, ◌<◌, min, max, length, Float}
use Rattle.std.proofs.Common.{sym, ap, ap₂, ◌∙◌, zero-add, arith}
use Rattle.std.proofs.Math.Logic.{dite}
use Rattle.std.proofs.Math.Decide.{dec_lt}
use Rattle.std.proofs.Math.Arith.{digits_lt}
use Rattle.std.specs.Float.{nan}
use Rattle.steps.specs.Num.{times, +zero, Entry, at, cell}
use Rattle.steps.specs.Sums.{sum, sum_none, sum_cong, sum_on}
use Rattle.steps.specs.Table.{table, is_table, is_tab}
use Rattle.steps.specs.Rows.{Rows}
use Rattle.pairs.specs.Grown.{grown, Grew}
use Rattle.places.specs.Down.{HoldsAt}
use Rattle.sums.specs.Products.{gram, moment, jtr_column}
use Rattle.sums.specs.ProductLaws.{gram_both}
use Rattle.sums.specs.Inner.{Filled}
use Rattle.sums.specs.Pages.{Holds, UpperSums, upper, with_targets}

-- the numbers of theta from row i on, as they stand, are those rows
pub holds_rows : (theta : List Float) (n i h m : ℕ) (page : List Float) → h * n ≤ m → ((k : ℕ) → k < m → at page k ≡ at theta (i * n + k)) → Holds (cell n theta) n i h page
holds_rows theta n i h m page all w =
    record {
      each = λ k c hk hc.
          let e : i * n + (k * n + c) ≡ (i + k) * n + c = omega arith in
          w (k * n + c) (omega (arith, digits_lt hk hc)) ∙ ap (at theta) e;
    }

-- all its columns, one after another
pub holds_columns : (e : Entry) (n i h m : ℕ) (page : List Float) → n ≤ m → HoldsAt (λ c. c) m e n i h page → Holds e n i h page
holds_columns e n i h m page all o = record { each = λ k c hk hc. o.each k c hk (omega arith) }

-- all of theta is a page of its own
pub holds_all : (theta : List Float) (n h : ℕ) → Holds (cell n theta) n 0 h theta
holds_all theta n h = record { each = λ k c hk hc. rw zero-add }

-- no row yet: every number is +0.0
pub sums_none : (e : Entry) (n : ℕ) (s : List Float) → length s ≡ n * n → ((k : ℕ) → k < n * n → at s k ≡ +zero) → UpperSums e n 0 s
unfolding gram
sums_none e n s len zeros =
    record {
      square = len;
      each = λ p q l k.
          let hp : p < n = omega arith in
          let none : gram e 0 p q ≡ +zero = sum_none _ _ _ in
          zeros (p * n + q) (digits_lt hp k) ∙ sym none;
    }

-- one page more
pub sums_more : (e : Entry) (n i h : ℕ) (page s t : List Float) → Holds e n i h page → UpperSums e n i s → Grew page n h 0 n 0 n s t → UpperSums e n (i + h) t
unfolding gram grown
sums_more e n i h page s t o m g =
    record {
      square = g.long ∙ m.square;
      each = λ p q l k.
          let hp : p < n = omega arith in
          g.done p q l k (record { top = omega arith; bottom = hp; left = omega arith; right = k })
          ∙ sum_cong _ 0 h _ _ (λ j a a'. ap₂ times (o.each j p a' hp) (o.each j q a' k))
          ∙ ap (λ (x : Float). sum x 0 h (λ j. times (e (i + j) p) (e (i + j) q))) (m.each p q l k)
          ∙ sym (sum_on _ i h (λ j. times (e j p) (e j q)));
    }

-- the target products: no row yet, one page more, and as a column
pub products_none : (e : Entry) (t : ℕ → Float) (n : ℕ) (s : List Float) → ((q : ℕ) → q < n → at s q ≡ +zero) → Filled n (moment e t 0) s
unfolding moment
products_none e t n s zeros = record { each = λ q b. zeros q b ∙ sym (sum_none _ _ _) }

pub products_more : (e : Entry) (n i h : ℕ) (page target s t : List Float) → Holds e n i h page → Filled n (moment e (at target) i) s →
    Filled n (with_targets page n h target i s) t → Filled n (moment e (at target) (i + h)) t
unfolding moment with_targets
products_more e n i h page target s t o m g =
    record {
      each = λ q b.
          g.each q b
          ∙ sum_cong _ 0 h _ _ (λ k a a'. ap (λ (x : Float). times x (at target (i + k))) (o.each k q a' b))
          ∙ ap (λ (x : Float). sum x 0 h (λ k. times (e (i + k) q) (at target (i + k)))) (m.each q b)
          ∙ sym (sum_on _ i h (λ k. times (e k q) (at target k)));
    }

pub products_end : (n : ℕ) (g : ℕ → Float) (s : List Float) → length s ≡ n → Filled n g s → s ≡ jtr_column n g
unfolding jtr_column
products_end n g s len l = is_tab n g s nan len l.each

-- every row mirrored
pub mirror_end : (e : Entry) (n rows : ℕ) (s t : List Float) → UpperSums e n rows s → Rows n n (upper n s) s n t → t ≡ table n n (gram e rows)
unfolding upper
mirror_end e n rows s t m w =
    is_table n n (gram e rows) t nan (w.long ∙ m.square) (λ r c hr hc. w.new r c hr hc ∙ m.each (min r c) (max r c) (omega arith) (omega arith) ∙ both r c)
  where
    -- one sum serves both entries
    both : (r c : ℕ) → gram e rows (min r c) (max r c) ≡ gram e rows r c
    both r c =
        dite (dec_lt r c)
        (λ (l : r < c). let a : min r c ≡ r = omega arith in let a' : max r c ≡ c = omega arith in rw (a, a'))
        (λ (l : r < c → ⊥). let a : min r c ≡ c = omega arith in let a' : max r c ≡ r = omega arith in rw (a, a') (gram_both e rows c r))
