-- A walk of the rows that keeps target products side by side: what they are before the first row, and after one more. Assumes nothing.
use mathlib.Core.Path.{◌≡◌, sym, ap, ◌∙◌}
use mathlib.Core.List.{List}
use Prim.Native.Nat.{ℕ, ◌+◌}
use native.Mathlib.Omega.{arith}
use lib.Ieee.{Float, binary64}
use Rattle.steps.specs.Num.{plus, times, at, cell}
use Rattle.steps.specs.Sums.{sum_none, sum_more}
use Rattle.steps.specs.Wrote.{Wrote}
use Rattle.sums.specs.ProductLaws.{times_comm}
use Rattle.sums.specs.Inner.{Filled}
use Rattle.sums.specs.Pages.{with_targets}

module _ (page : List Float) (n : ℕ) (target : List Float) (i : ℕ) (s : List Float) where
  -- no row yet
  pub targets_none : Filled n (with_targets page n 0 target i s) s
  unfolding with_targets
  targets_none = record { each = λ q b. sym (sum_none _ _ _) }

  -- a row more: the products of x and the row's entries are added
  pub targets_more : (k : ℕ) (x : Float) (t t' : List Float) → Wrote (λ q. q) 0 n (λ q. plus (at t q) (times x (cell n page k q))) t t' → x ≡ at target (i + k) →
      Filled n (with_targets page n k target i s) t → Filled n (with_targets page n (k + 1) target i s) t'
  unfolding with_targets
  targets_more k x t t' w e l =
      record { each = λ q b. w.done q (omega arith) b ∙ sum_more _ 0 k _ (omega arith) (l.each q b) (times_comm binary64 x (cell n page k q) ∙ ap (times (cell n page k q)) e) }
