-- A pattern's fields, and an odd exponent made even, on plain numbers. Assumes nothing.
use Rattle.std.proofs.Common.{◌≡◌, ℕ, zero, suc, ◌+◌, ◌-◌, ◌*◌, ◌/◌, ◌%◌, ◌^◌, ◌<◌, ◌≤◌, Bool, cond, sym, refl, ap, ◌∙◌, subst, mul_assoc, arith, pow-add, eq-eqb, ne_eqb}
use Rattle.float64.specs.Parts.{Widened}
use Rattle.float64.specs.Rule.{units_of}

bit : (p : ℕ) → p < 2 → 1 + p ≡ 2 ^ p
bit zero h = refl
bit (suc zero) h = refl
bit (suc (suc p)) h = absurd (omega arith)

-- with the exponent's last digit put into s
pub halved : (s e : ℕ) → s * (1 + e % 2) * 2 ^ (e / 2) * 2 ^ (e / 2) ≡ s * 2 ^ e
halved s e =
    let h = e / 2 in
    let p = e % 2 in
    let z : p + h + h ≡ e = omega arith in
    ap (λ (x : ℕ). s * x * 2 ^ h * 2 ^ h) (bit p (omega arith))
    ∙ ap (λ (x : ℕ). x * 2 ^ h) (mul_assoc s (2 ^ p) (2 ^ h) ∙ ap (λ (x : ℕ). s * x) (sym (pow-add 2 p h)))
    ∙ mul_assoc s (2 ^ (p + h)) (2 ^ h)
    ∙ ap (λ (x : ℕ). s * x) (sym (pow-add 2 (p + h) h) ∙ ap (λ (x : ℕ). 2 ^ x) z)

-- and s then has 53 digits or 54
pub wide : (s p : ℕ) → 2 ^ 52 ≤ s → s < 2 ^ 53 → p < 2 → (2 ^ 52 ≤ s * (1 + p)) × (s * (1 + p) + 2 ≤ 2 ^ 54)
wide s zero l h k = (omega arith, omega arith)
wide s (suc zero) l h k = (omega arith, omega arith)
wide s (suc (suc p)) l h k = absurd (omega arith)

pub units_low : (b : ℕ) → b / 2 ^ 52 ≡ 0 → units_of b ≡ b % 2 ^ 52
unfolding units_of
units_low b h = ap (λ (t : Bool). cond t (b % 2 ^ 52) ((2 ^ 52 + b % 2 ^ 52) * 2 ^ (b / 2 ^ 52 - 1))) (eq-eqb (b / 2 ^ 52) 0 h)

pub units_high : (b : ℕ) → (b / 2 ^ 52 ≡ 0 → ⊥) → units_of b ≡ (2 ^ 52 + b % 2 ^ 52) * 2 ^ (b / 2 ^ 52 - 1)
unfolding units_of
units_high b h = ap (λ (t : Bool). cond t (b % 2 ^ 52) ((2 ^ 52 + b % 2 ^ 52) * 2 ^ (b / 2 ^ 52 - 1))) (ne_eqb (b / 2 ^ 52) 0 h)

pub moved : (s f : ℕ) → (f ≡ 0 → ⊥) → s * 2 ^ (f + 51) ≡ s * 2 ^ (f - 1) * 2 ^ 52
moved s f h =
    let z : f + 51 ≡ f - 1 + 52 = omega arith in
    ap (λ (x : ℕ). s * 2 ^ x) z ∙ ap (λ (x : ℕ). s * x) (pow-add 2 (f - 1) 52) ∙ sym (mul_assoc s (2 ^ (f - 1)) (2 ^ 52))

-- so a normal number's pattern has its 53 digits at hand
pub widened_high : (b : ℕ) → b < 0x7ff0_0000_0000_0000 → (b / 2 ^ 52 ≡ 0 → ⊥) → Widened (units_of b) (2 ^ 52 + b % 2 ^ 52) (b / 2 ^ 52 + 51)
widened_high b l n = subst (λ (u : ℕ). Widened u (2 ^ 52 + b % 2 ^ 52) (b / 2 ^ 52 + 51)) (sym (units_high b n))
    (record { same = moved (2 ^ 52 + b % 2 ^ 52) (b / 2 ^ 52) n; low = omega arith; high = omega arith; most = omega arith })
