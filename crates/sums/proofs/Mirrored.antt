-- The sums on and above the diagonal, mirrored: one row more. Assumes nothing.
use mathlib.Core.Path.{◌≡◌, sym, ◌∙◌}
use mathlib.Core.Logic.{dite}
use mathlib.Core.List.{List}
use Prim.Native.Nat.{ℕ, ◌+◌, ◌*◌, ◌≤◌, ◌<◌, min, max}
use native.Mathlib.Omega.{arith}
use native.Mathlib.Decide.{dec_lt}
use lib.Ieee.{Float}
use Rattle.steps.specs.Num.{cell}
use Rattle.steps.specs.Rows.{Rows, rows_more, rows_apart}
use Rattle.steps.specs.Wrote.{Wrote}
use Rattle.sums.specs.Pages.{upper}

module _ (n : ℕ) (s : List Float) where
  -- an entry on or above the diagonal, and one below it
  upper_on : (r c : ℕ) → r ≤ c → cell n s r c ≡ upper n s r c
  unfolding upper
  upper_on r c l = let e : min r c ≡ r = omega arith in let e' : max r c ≡ c = omega arith in rw (e, e')

  upper_below : (r c : ℕ) → c ≤ r → cell n s c r ≡ upper n s r c
  unfolding upper
  upper_below r c l = let e : min r c ≡ c = omega arith in let e' : max r c ≡ r = omega arith in rw (e, e')

  pub mirror_more : (p : ℕ) (t u : List Float) → p < n → Rows n n (upper n s) s p t → Wrote (λ q. p * n + q) 0 p (λ q. cell n t q p) t u → Rows n n (upper n s) s (p + 1) u
  mirror_more p t u hp m w =
      rows_more n n (upper n s) s p t u m w.long
      (λ c hc. dite (dec_lt c p)
      (λ (l : c < p). w.done c (omega arith) l ∙ m.new c p l hp ∙ sym (upper_on c p (omega arith)) ∙ upper_below p c (omega arith))
      (λ (l : c < p → ⊥). w.rest (p * n + c) (λ k h h' e. omega arith) ∙ m.old p c (omega arith) hp hc ∙ upper_on p c (omega arith)))
      (λ r c d hc. w.rest (r * n + c) (λ k h h' e. rows_apart n r p c k d hc (omega arith) e))
