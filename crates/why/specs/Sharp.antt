-- What a threshold above zero gives of a term, and what a look then finds of it. Assumes nothing.
use Rattle.std.specs.Prelude.{◌≡◌, refl, Bool, true, false, ℕ, ◌<◌, T, Float}
use Rattle.std.proofs.Math.Path.{sym, ap}
use Rattle.std.proofs.Common.{◌∙◌, subst}
use mathlib.Core.List.{List}
use Rattle.std.proofs.lemmas.List.{get_or-replicate}
use Rattle.std.specs.Float.Ieee.{nan, is_nan}
use Rattle.std.specs.Float.{inf, fin}
use Rattle.steps.specs.Num.{+zero, at}
use Rattle.steps.specs.Cond.{either}
use Rattle.steps.specs.Table.{get_or_tab}
use Rattle.support.specs.Word.{has}
use Rattle.support.specs.WordLaws.{has_word}
use Rattle.rule.specs.Rule.{Problem, State, going, done, zeros, support, rounds, pruned, reported, finish, fit, coeffs_of}
use Rattle.rule.specs.Stable.{ZeroKept}

-- ---- tests

-- no test is both true and false
pub clash : {b : Bool} → b ≡ true → b ≡ false → ⊥
clash p q = subst T (sym p ∙ q) tt

-- where one test makes another false, and that is true, the one is false
pub contrary : (a b : Bool) → (a ≡ true → b ≡ false) → b ≡ true → a ≡ false
contrary true b f e = sym e ∙ f refl
contrary false b f e = refl

-- what tests as a NaN is the NaN
pub nan_is : (c : Float) → is_nan c ≡ true → nan ≡ c
unfolding is_nan
nan_is nan e = refl
nan_is (inf s) e = absurd (clash e refl)
nan_is (fin s m x) e = absurd (clash e refl)

-- ---- the term j of a problem

-- it is one of the problem's; no look keeps it at +0.0 or at NaN; the last pass clears it exactly where no look keeps it, but for a NaN
pub record Sharp (P : Problem) (j : ℕ) : Type 0 where
  pub below : j < P.cols
  pub zero_kept : ZeroKept P
  pub zero_out : P.keeps j +zero ≡ false
  pub nan_out : P.keeps j nan ≡ false
  pub nan_spared : P.clears j nan ≡ false
  pub kept_spared : (c : Float) → P.keeps j c ≡ true → P.clears j c ≡ false
  pub rest_cleared : (c : Float) → P.keeps j c ≡ false → is_nan c ≡ false → P.clears j c ≡ true

module _ {P : Problem} {j : ℕ} (sharp : Sharp P j) where
  -- a look finds the term exactly if it keeps its value
  pub finds : (cs : List Float) → has (support P cs) j ≡ P.keeps j (at cs j)
  unfolding support
  finds cs = has_word _ P.cols j sharp.below

  -- a look at zeros does not
  pub not_in_zeros : has (support P (zeros P.cols)) j ≡ false
  not_in_zeros = finds _ ∙ ap (P.keeps j) (get_or-replicate P.cols j +zero nan sharp.below) ∙ sharp.zero_out

  -- what the last pass clears was kept by no look, and is no NaN
  pub cleared_out : (c : Float) → P.clears j c ≡ true → P.keeps j c ≡ false
  cleared_out c = contrary _ _ (sharp.kept_spared c)

  pub cleared_number : (c : Float) → P.clears j c ≡ true → is_nan c ≡ false
  cleared_number c = contrary _ _ (λ n. ap (P.clears j) (sym (nan_is c n)) ∙ sharp.nan_spared)

  -- the last pass changes no look at the term: the kept word has it exactly if a look before that pass finds it
  pub kept_found : (limit : ℕ) → has (fit P limit).kept j ≡ has (support P (coeffs_of (rounds P limit))) j
  unfolding fit finish reported pruned
  kept_found limit = go (rounds P limit)
    where
      same : (cs : List Float) → has (support P (pruned P cs)) j ≡ has (support P cs) j
      same cs =
          let c = at cs j in
          finds _ ∙ ap (P.keeps j) (get_or_tab P.cols _ j nan sharp.below)
          ∙ either (λ x. P.keeps j x ≡ P.keeps j c) (P.clears j c) +zero c (λ t. sharp.zero_out ∙ sym (cleared_out c t)) (λ t. refl)
          ∙ sym (finds cs)

      go : (s : State) → has (finish P s).kept j ≡ has (support P (coeffs_of s)) j
      go (going cs ws) = same cs
      go (done t cs ws) = same cs
