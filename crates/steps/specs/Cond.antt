-- A choice by a test. Assumes nothing.
use Rattle.std.specs.Prelude.{◌≡◌, refl, ◌⊎◌, Bool, true, false, cond, ℕ, ◌-◌, ◌≤◌, ◌<◌}
use Rattle.std.proofs.Common.{inl, inr, ⊎_elim, eq-zero-or-pos, arith}

-- what holds of each choice where its test says so holds of the chosen
pub either {ℓ} : {S : Type ℓ} (A : S → Type 0) (b : Bool) (x y : S) → (b ≡ true → A x) → (b ≡ false → A y) → A (cond b x y)
either A true x y f g = f refl
either A false x y f g = g refl

-- a test is true or false
pub yes_or_no : (b : Bool) → (b ≡ true) ⊎ (b ≡ false)
yes_or_no true = inl refl
yes_or_no false = inr refl

pub lt_or_ge : (a b : ℕ) → (a < b) ⊎ (b ≤ a)
lt_or_ge a b = ⊎_elim (λ z. inr (let q : b ≤ a = omega arith in q)) (λ z. inl (let q : a < b = omega arith in q)) (eq-zero-or-pos (b - a))
