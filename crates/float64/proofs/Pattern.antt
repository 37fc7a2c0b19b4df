-- The rounded root of n units and its pattern, from the whole part q of the root of s * 2 ^ 54, where n * 2 ^ 52 is s * 2 ^ (2 * h). Assumes nothing.
use Rattle.std.proofs.Common.{◌≡◌, ℕ, suc, ◌+◌, ◌*◌, ◌/◌, ◌^◌, ◌<◌, ◌≤◌, false, T, sym, refl, ap, ◌∙◌, subst, le_trans, le_of_eq, lt_of_lt_of_le, mul-le-mul_right, mul_assoc, add-mul, mul_left_comm, arith, pow_pos, pow_mono, pow-add, shl_lt}
use lib.Ieee.{Float, binary64, units, size, fits, of_bits}
use lib.Ieee.Exact.{HasValue, units_val}
use lib.Ieee.Fits.{round-fits}
use Rattle.float64.specs.Parts.{WholePart}
use Rattle.float64.specs.Root.{isqrt, nearest_root}
use Rattle.float64.proofs.Digits.{q_low, q_high, half_low, half_high, twice, scaled, in_reach, above, sides}
use Rattle.float64.proofs.Rounding.{size_at, round_at, read_back}
use Rattle.float64.proofs.Square.{isqrt_whole, whole_scale_lo, whole_scale_hi}

pub nearest_fits : (n : ℕ) → T (fits binary64 (nearest_root n))
unfolding nearest_root
nearest_fits n = round-fits binary64 false (isqrt 1586 (n * 2 ^ 1074)) (2 ^ 1074)

module _ (n s h q : ℕ) (e : n * 2 ^ 52 ≡ s * 2 ^ h * 2 ^ h) (S : 2 ^ 52 ≤ s) (S' : s + 2 ≤ 2 ^ 54) (H : h ≤ 1048) (W : WholePart (s * 2 ^ 54) q) where
  abbrev a : ℕ
  a = n * 2 ^ 1074

  abbrev w : ℕ
  w = isqrt 1586 a

  abbrev c : ℕ
  c = 2 ^ (h + 484)

  -- the root's digits
  abbrev m : ℕ
  m = (q + 1) / 2

  -- the whole part w of the root lies between q * c and (q + 1) * c
  w_whole : WholePart (s * 2 ^ 54 * (c * c)) w
  w_whole = subst (λ (x : ℕ). WholePart x w) (scaled n s h e) (isqrt_whole 1586 a (in_reach n s h e (omega arith) H))

  lo : q * c ≤ w
  lo = whole_scale_lo (s * 2 ^ 54) c q w W w_whole

  hi : w < (q + 1) * c
  hi = whole_scale_hi (s * 2 ^ 54) c q w (pow_pos (h + 484)) W w_whole

  -- c has more digits than q
  more : 2 * q + 1 ≤ c
  more = le_trans (omega (arith, q_high s q S' W)) (pow_mono {i = 55} {j = h + 484} (omega arith))

  -- w is nearer to m * 2 ^ (485 + h) than half a step
  both : (2 * w < 2 * (m * 2 ^ (485 + h)) + 2 ^ (485 + h)) × (2 * (m * 2 ^ (485 + h)) < 2 * w + 2 ^ (485 + h))
  both =
      let t : m * 2 ^ (485 + h) ≡ 2 * (m * c) = ap (λ (x : ℕ). m * x) (twice h) ∙ mul_left_comm m 2 c in
      let z = sides q m c w (m * c) (q * c) ((q + 1) * c) refl lo hi (λ o. above s c q w more o W w_whole)
      (omega (arith, add-mul q 1 c))
      (λ v. sym (mul_assoc 2 m c) ∙ ap (λ (x : ℕ). x * c) v)
      (λ v. sym (mul_assoc 2 m c) ∙ ap (λ (x : ℕ). x * c) v) in
      let p : 2 ^ (485 + h) ≡ 2 * c = twice h in
      (omega arith, omega arith)

  digits : size w ≡ 53 + (485 + h)
  digits =
      size_at (53 + (h + 484)) w
      (le_trans (le_of_eq (pow-add 2 53 (h + 484))) (le_trans (mul-le-mul_right c (q_low s q S W)) lo))
      (lt_of_lt_of_le hi (le_trans (mul-le-mul_right c q1) (le_of_eq (sym (pow-add 2 54 (h + 484)) ∙ ap (λ (x : ℕ). 2 ^ x) ex))))
      ∙ ex2
    where
      q1 : q + 1 ≤ 2 ^ 54
      q1 = omega (arith, q_high s q S' W)

      ex : 54 + (h + 484) ≡ suc (53 + (h + 484))
      ex = omega arith

      ex2 : suc (53 + (h + 484)) ≡ 53 + (485 + h)
      ex2 = omega arith

  rounded : nearest_root n ≡ units binary64 false m (485 + h)
  unfolding nearest_root
  rounded = round_at w m (485 + h) digits both.0 both.1

  pub root_at : of_bits binary64 ((485 + h) * 2 ^ 52 + m) ≡ nearest_root n
  root_at = read_back (nearest_root n) m (485 + h) (nearest_fits n)
      (subst (λ (v : Float). HasValue v false (m * 2 ^ (485 + h)) (2 ^ 1074)) (sym rounded)
      (units_val binary64 false m (485 + h) (lt_of_lt_of_le (shl_lt 53 (485 + h) (half_high s q S' W)) (pow_mono {j = 2098} (omega arith)))))
      (half_low s q S W) (half_high s q S' W)

  pub root_small : (485 + h) * 2 ^ 52 + m < 2047 * 2 ^ 52
  root_small = omega (arith, half_high s q S' W)
