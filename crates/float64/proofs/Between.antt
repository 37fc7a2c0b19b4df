-- The pattern of the rounded root: the root lies strictly between the two midpoints around it. Assumes nothing.
use Rattle.std.proofs.Common.{◌≡◌, ℕ, zero, suc, ◌+◌, ◌-◌, ◌*◌, ◌/◌, ◌%◌, ◌^◌, ◌<◌, ◌≤◌, ◌⊎◌, sym, refl, ap, ◌∙◌, inl, inr, le_of_eq, lt_of_lt_of_le, lt_of_le_of_lt, mul_assoc, mul_comm, add-mul, mul-le-mul, eq-or-lt_of_le, mul-lt-mul_of_pos_right, mul-pos, arith, pow_pos}
use native.Mathlib.Nat.{mul-mul-mul_comm}
use lib.Arith.{lt_of_le-ne}
use Rattle.float64.specs.Parts.{WholePart}
use Rattle.float64.specs.Rule.{units_of, Nearest}
use Rattle.float64.proofs.Digits.{q_low, half_low, half_high, twice, scaled, no_root}
use Rattle.float64.proofs.Order.{units_normal}
use Rattle.float64.proofs.Square.{sq_twice, sq_next}

-- ---- the midpoints, as l * c and u * c: four times what the root is of lies strictly between their squares
lower : (a q l : ℕ) → q * q ≤ a → (l ≡ 2 * q → q * q ≡ a → ⊥) → l ≤ 2 * q → l * l < 4 * a
lower a q l h n k = go (eq-or-lt_of_le k)
  where
    go : (l ≡ 2 * q) ⊎ (l < 2 * q) → l * l < 4 * a
    go (inl e) =
        let s : q * q < a = lt_of_le-ne h (n e) in
        omega (arith, ap (λ (x : ℕ). x * x) e, sq_twice q)
    go (inr g) =
        let s : (l + 1) * (l + 1) ≤ 2 * q * (2 * q) = mul-le-mul (omega arith) (omega arith) in
        omega (arith, sq_next l, sq_twice q)

upper : (a q u : ℕ) → a < (q + 1) * (q + 1) → 2 * (q + 1) ≤ u → 4 * a < u * u
upper a q u h k = let s : 2 * (q + 1) * (2 * (q + 1)) ≤ u * u = mul-le-mul k k in omega (arith, sq_twice (q + 1))

odd_half : (q r : ℕ) → q % 2 ≡ r → 0 < (q + 1) / 2 → 4 * ((q + 1) / 2) - 2 ≡ 2 * q → q % 2 ≡ 1
odd_half q zero e p h = let k : (q + 1) / 2 ≡ q / 2 = omega arith in let j : q ≡ 2 * (q / 2) = omega arith in absurd (omega arith)
odd_half q (suc r) e p h = omega arith

scale_lt : (x y c : ℕ) → 0 < c → x * x < 4 * y → x * c * (x * c) < 4 * (y * (c * c))
scale_lt x y c C h = lt_of_le_of_lt (le_of_eq (mul-mul-mul_comm x c x c)) (lt_of_lt_of_le (mul-lt-mul_of_pos_right h (mul-pos C C)) (le_of_eq (mul_assoc 4 y (c * c))))

scale_gt : (x y c : ℕ) → 0 < c → 4 * y < x * x → 4 * (y * (c * c)) < x * c * (x * c)
scale_gt x y c C h = lt_of_le_of_lt (le_of_eq (sym (mul_assoc 4 y (c * c)))) (lt_of_lt_of_le (mul-lt-mul_of_pos_right h (mul-pos C C)) (le_of_eq (sym (mul-mul-mul_comm x c x c))))

module _ (n s h q : ℕ) (e : n * 2 ^ 52 ≡ s * 2 ^ h * 2 ^ h) (S : 2 ^ 52 ≤ s) (S' : s + 2 ≤ 2 ^ 54) (W : WholePart (s * 2 ^ 54) q) where
  abbrev c : ℕ
  c = 2 ^ (h + 484)

  abbrev m : ℕ
  m = (q + 1) / 2

  abbrev b : ℕ
  b = (485 + h) * 2 ^ 52 + m

  C : 0 < c
  C = pow_pos (h + 484)

  m_low : 2 ^ 52 ≤ m
  m_low = half_low s q S W

  m_high : m < 2 ^ 53
  m_high = half_high s q S' W

  mid : (k : ℕ) → 2 ^ 52 ≤ k → k ≤ 2 ^ 53 → (x : ℕ) → x ≡ (485 + h) * 2 ^ 52 + k → units_of x ≡ 2 * k * c
  mid k l g x z = units_normal (485 + h) k x l g z ∙ ap (λ (y : ℕ). k * y) (twice h) ∙ sym (mul_assoc k 2 c) ∙ ap (λ (y : ℕ). y * c) (mul_comm k 2)

  at_b : units_of b ≡ 2 * m * c
  at_b = mid m m_low (omega (arith, m_high)) b refl

  at_next : units_of (b + 1) ≡ 2 * (m + 1) * c
  at_next = mid (m + 1) (omega (arith, m_low)) (omega (arith, m_high)) (b + 1) (omega arith)

  high_sum : units_of b + units_of (b + 1) ≡ (4 * m + 2) * c
  high_sum =
      let z : 2 * m + 2 * (m + 1) ≡ 4 * m + 2 = omega arith in
      ap (λ (x : ℕ). x + units_of (b + 1)) at_b ∙ ap (λ (x : ℕ). 2 * m * c + x) at_next ∙ sym (add-mul (2 * m) (2 * (m + 1)) c) ∙ ap (λ (x : ℕ). x * c) z

  -- below a power of two the patterns stand half as far apart
  at_last : (m ≡ 2 ^ 52) ⊎ (2 ^ 52 < m) → (l : ℕ) × (units_of (b - 1) + units_of b ≡ l * c) × (l ≤ 2 * q) × (l ≡ 2 * q → q % 2 ≡ 1)
  at_last (inl z) =
      let y : units_of (b - 1) ≡ (2 ^ 53 - 1) * c = units_normal (h + 484) (2 ^ 53 - 1) (b - 1) (omega arith) (omega arith) (omega arith) in
      let w : 2 ^ 53 - 1 + 2 * m ≡ 2 ^ 54 - 1 = omega arith in (
        2 ^ 54 - 1,
        ap (λ (x : ℕ). x + units_of b) y ∙ ap (λ (x : ℕ). (2 ^ 53 - 1) * c + x) at_b ∙ sym (add-mul (2 ^ 53 - 1) (2 * m) c) ∙ ap (λ (x : ℕ). x * c) w,
        omega (arith, q_low s q S W),
        λ v. absurd (omega arith),
      )
  at_last (inr z) =
      let y : units_of (b - 1) ≡ 2 * (m - 1) * c = mid (m - 1) (omega arith) (omega (arith, m_high)) (b - 1) (omega arith) in
      let w : 2 * (m - 1) + 2 * m ≡ 4 * m - 2 = omega arith in (
        4 * m - 2,
        ap (λ (x : ℕ). x + units_of b) y ∙ ap (λ (x : ℕ). 2 * (m - 1) * c + x) at_b ∙ sym (add-mul (2 * (m - 1)) (2 * m) c) ∙ ap (λ (x : ℕ). x * c) w,
        omega arith,
        λ v. odd_half q (q % 2) refl (omega arith) v,
      )

  pub nearest_at : Nearest n b
  nearest_at =
      let a = at_last (swap (eq-or-lt_of_le m_low)) in
      let k : n * 2 ^ 1074 ≡ s * 2 ^ 54 * (c * c) = scaled n s h e in
      record {
        some = omega (arith, m_low);
        low = rw (k, a.1) (scale_lt a.0 (s * 2 ^ 54) c C (lower (s * 2 ^ 54) q a.0 W.lo (λ v. no_root s q (a.3 v)) a.2));
        high = rw (k, high_sum) (scale_gt (4 * m + 2) (s * 2 ^ 54) c C (upper (s * 2 ^ 54) q (4 * m + 2) W.hi (omega arith)));
      }
    where
      swap : (2 ^ 52 ≡ m) ⊎ (2 ^ 52 < m) → (m ≡ 2 ^ 52) ⊎ (2 ^ 52 < m)
      swap (inl z) = inl (sym z)
      swap (inr z) = inr z
