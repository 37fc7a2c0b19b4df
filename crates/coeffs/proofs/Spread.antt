-- Writing a list from its last number down, and collecting a support by rising term. Assumes nothing.
use mathlib.Core.Path.{◌≡◌, refl, ◌∙◌, subst}
use mathlib.Core.Logic.{⊎_elim}
use mathlib.Core.Bool.{Bool, cond}
use mathlib.Core.List.{List}
use Prim.Native.Nat.{ℕ, ◌+◌, ◌-◌, ◌≤◌, ◌<◌}
use native.Mathlib.Nat.{eq-or-lt_of_le}
use native.Mathlib.Omega.{arith}
use lib.ListN.{length, set, length-set}
use lib.Seq.{get_or-set_same, get_or-set_other}
use lib.Ieee.{Float, nan}
use Rattle.steps.specs.Num.{at}
use Rattle.steps.specs.Cond.{either}
use Rattle.steps.specs.Table.{tab, is_tab}
use Rattle.support.specs.Word.{word, with_term}
use Rattle.support.specs.SupportLaws.{word_take, word_skip}

-- d' is d with g c at each c from j on
pub record Spread (j : ℕ) (g : ℕ → Float) (d d' : List Float) : Type 0 where
  pub long : length d' ≡ length d
  pub done : (c : ℕ) → j ≤ c → c < length d → at d' c ≡ g c
  pub rest : (c : ℕ) → c < j → at d' c ≡ at d c

pub spread_none : (g : ℕ → Float) (d : List Float) → Spread (length d) g d d
spread_none g d = record { long = refl; done = λ c h h'. absurd (omega arith); rest = λ c h. refl }

pub spread_more : (j : ℕ) (g : ℕ → Float) (d d' : List Float) (x : Float) → 0 < j → j ≤ length d → Spread j g d d' → x ≡ g (j - 1) → Spread (j - 1) g d (set d' (j - 1) x)
spread_more j g d d' x pos fits s e = record {
  long = length-set d' (j - 1) x ∙ s.long;
  done = λ c h h'. ⊎_elim
      (λ q. subst (λ (k : ℕ). at (set d' (j - 1) x) k ≡ g k) q (get_or-set_same d' (j - 1) x nan (omega (arith, s.long)) ∙ e))
      (λ q. get_or-set_other d' (j - 1) c x nan (λ p. omega arith) ∙ s.done c (omega arith) h')
      (eq-or-lt_of_le h);
  rest = λ c h. get_or-set_other d' (j - 1) c x nan (λ p. omega arith) ∙ s.rest c (omega arith);
}

pub spread_end : (g : ℕ → Float) (d d' : List Float) → Spread 0 g d d' → d' ≡ tab (length d) g
spread_end g d d' s = is_tab (length d) g d' nan s.long (λ i h. s.done i (omega arith) h)

-- a look at one more term
pub word_more : (f : ℕ → Bool) (j w r : ℕ) → j < 64 → w ≡ word f j → r ≡ cond (f j) (with_term w j) w → r ≡ word f (j + 1)
word_more f j w r h e q = q ∙ either (λ x. x ≡ word f (j + 1)) (f j) (with_term w j) w (λ t. word_take f j h t e) (λ t. word_skip f j t e)
