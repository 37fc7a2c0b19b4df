-- The three ways out of a column's step, from what its steps gave. Assumes nothing.
use Rattle.std.specs.Prelude.{◌≡◌, true, false, List, ℕ, ◌≤◌, ◌<◌, replicate, Float}
use Rattle.std.proofs.Common.{sym, ap, ◌∙◌, arith}
use Rattle.std.proofs.lemmas.List.{get_or-replicate}
use Rattle.std.specs.Float.{nan}
use Rattle.std.specs.Float.Ieee.{lt}
use Rattle.steps.specs.Num.{plus, times, over, +zero, -zero, two, 1e-15, 1e-30, at, cell}
use Rattle.steps.specs.Sums.{sum_none}
use Rattle.steps.specs.Wrote.{Wrote}
use Rattle.float64.specs.Root.{root_of}
use Rattle.transpose.specs.Led.{led, along}
use Rattle.householder.specs.Qr.{sign, share, reflect, pushed, normed, column}
use Rattle.householder.specs.Steps.{Sums}
use Rattle.householder.proofs.Rows.{reflect_cong}

-- before the first row every sum is -0.0
pub sums_none : (n j : ℕ) (x : Float) (l : List Float) → n ≤ 64 → Sums j n j x l (replicate 64 -zero)
unfolding along
sums_none n j x l h = record { each = λ c a b. get_or-replicate 64 c -zero nan (omega arith) ∙ sym (sum_none -zero j _) }

with_first : {a b : List Float} {x : Float} → a ≡ b → ◌≡◌ {A = List Float × Float} (a, x) (b, x)
with_first q = rw q

module _ (m n j : ℕ) (l : List Float) {lead s norm : Float} (is-lead : lead ≡ cell n l j j) (is_sum : s ≡ along j m (led lead (cell n l) j) (led lead (cell n l) j)) (is-norm : norm ≡ root_of s) where
  at_norm : column m n j l ≡ normed m n j l norm
  unfolding column
  at_norm = rw (is-norm, is_sum, is-lead)

  -- the norm is too small
  pub skips : lt norm 1e-15 ≡ true → (l, +zero) ≡ column m n j l
  unfolding normed
  skips small = sym (at_norm ∙ rw small)

  module _ {side q : Float} (is-side : side ≡ sign lead) (is-q : let v = led (plus lead (times side norm)) (cell n l) j in q ≡ along j m v v) (large : lt norm 1e-15 ≡ false) where
    abbrev x : Float
    x = plus lead (times side norm)

    at_push : column m n j l ≡ pushed m n j l x q
    unfolding normed
    at_push = at_norm ∙ rw (large, is-q, is-side, is-lead)

    -- the sum of squares is too small
    pub skips_push : lt q 1e-30 ≡ true → (l, +zero) ≡ column m n j l
    unfolding pushed
    skips_push small = sym (at_push ∙ rw small)

    -- the columns have lost their shares, which are the sums w times beta
    pub reflects : lt q 1e-30 ≡ false → (w t l' : List Float) → Sums m n j x l w → Wrote (λ c. c) j n (λ c. times (over two q) (at w c)) w t →
        l' ≡ reflect m n j x (at t) l → (l', times (times (over two q) x) x) ≡ column m n j l
    unfolding pushed share
    reflects wide w t l' sums scaled is =
        let shares : (c : ℕ) → j ≤ c → c < n → at t c ≡ share m j (led x (cell n l) j) (over two q) (cell n l) c = λ c a b. scaled.done c a b ∙ ap (times (over two q)) (sums.each c a b) in
        with_first (is ∙ reflect_cong m n j x _ _ l shares) ∙ sym (at_push ∙ rw wide)
