-- What holds of every result of an operation, and so of each number of a list that is made of results. Assumes nothing.
use Rattle.std.specs.Prelude.{◌≡◌, List, [], ◌∷◌, T, length, set, take, Float}
use Rattle.std.proofs.Common.{◌∙◌, length-set, length-take-le}
use Prim.Native.Nat.{ℕ, zero, suc, ◌≤◌}
use Rattle.std.specs.Float.{nan, binary64}
use Rattle.std.specs.Float.Ieee.{fits}
use Rattle.std.specs.Float.Ieee.Fits.{nan-fits, add-fits, sub-fits, div-fits}
use Rattle.std.specs.Float.Ieee.Bits.{of_bits-fits}
use Rattle.steps.specs.Num.{plus, less, over, +zero, at}
use Rattle.steps.specs.Loops.{loop_keeps}
use Rattle.steps.specs.Sums.{sum, less_sum}
use Rattle.steps.specs.Table.{tab, length_tab}

-- Q holds of a NaN, of +0.0, and of whatever an operation gives, its operands being any
pub record Rounded (Q : Float → Type 0) : Type 0 where
  pub none : Q nan
  pub nought : Q +zero
  pub sum_of : (x y : Float) → Q (plus x y)
  pub rest_of : (x y : Float) → Q (less x y)
  pub part_of : (x y : Float) → Q (over x y)

-- it holds of any number, if Q says nothing
pub anything : Rounded (λ x. Unit {0})
anything = record { none = tt; nought = tt; sum_of = λ x y. tt; rest_of = λ x y. tt; part_of = λ x y. tt }

-- a binary64 holds it
pub in_format : Rounded (λ x. T (fits binary64 x))
in_format = record { none = nan-fits binary64; nought = of_bits-fits binary64 0; sum_of = add-fits binary64; rest_of = sub-fits binary64; part_of = div-fits binary64 }

-- k numbers, Q of each (past the end stands a NaN)
pub record Column (Q : Float → Type 0) (k : ℕ) (l : List Float) : Type 0 where
  pub long : length l ≡ k
  pub each : (i : ℕ) → Q (at l i)

module _ {Q : Float → Type 0} (made : Rounded Q) where
  -- a sum, and what it leaves of a number
  pub sum_made : (z : Float) (lo hi : ℕ) (f : ℕ → Float) → Q z → Q (sum z lo hi f)
  unfolding sum
  sum_made z lo hi f q = loop_keeps Q lo hi _ z (λ i s p. made.sum_of s _) q

  pub rest_made : (z : Float) (lo hi : ℕ) (f : ℕ → Float) → Q z → Q (less_sum z lo hi f)
  unfolding less_sum
  rest_made z lo hi f q = loop_keeps Q lo hi _ z (λ i s p. made.rest_of s _) q

  -- a list given by its numbers
  pub tab_column : (n : ℕ) (f : ℕ → Float) → ((i : ℕ) → Q (f i)) → Column Q n (tab n f)
  unfolding tab
  tab_column n f h = record { long = length_tab n f; each = go n f h }
    where
      go : (n : ℕ) (f : ℕ → Float) → ((i : ℕ) → Q (f i)) → (i : ℕ) → Q (at (tab n f) i)
      go zero f h i = made.none
      go (suc n) f h zero = h zero
      go (suc n) f h (suc i) = go n (λ k. f (suc k)) (λ k. h (suc k)) i

  -- its first n numbers
  pub take_column : {m : ℕ} (n : ℕ) (l : List Float) → n ≤ length l → Column Q m l → Column Q n (take n l)
  take_column n l h c = record { long = length-take-le n l h; each = go n l c.each }
    where
      go : (n : ℕ) (l : List Float) → ((i : ℕ) → Q (at l i)) → (i : ℕ) → Q (at (take n l) i)
      go zero l h i = made.none
      go (suc n) [] h i = made.none
      go (suc n) (x ∷ l) h zero = h zero
      go (suc n) (x ∷ l) h (suc i) = go n l (λ k. h (suc k)) i

-- a number stored
pub set_column : {Q : Float → Type 0} {k : ℕ} (l : List Float) (i : ℕ) (x : Float) → Q x → Column Q k l → Column Q k (set l i x)
set_column {Q} l i x q c = record { long = length-set l i x ∙ c.long; each = go l i c.each }
  where
    go : (l : List Float) (i : ℕ) → ((j : ℕ) → Q (at l j)) → (j : ℕ) → Q (at (set l i x) j)
    go [] i h j = h j
    go (y ∷ l) zero h zero = q
    go (y ∷ l) zero h (suc j) = h (suc j)
    go (y ∷ l) (suc i) h zero = h zero
    go (y ∷ l) (suc i) h (suc j) = go l i (λ k. h (suc k)) j
