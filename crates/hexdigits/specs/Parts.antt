-- Runs of digits, digit by digit, and their parts. Assumes nothing.
use Rattle.std.specs.Prelude.{◌≡◌, true, false, List, ℕ, ◌+◌, ◌-◌, ◌*◌, ◌≤◌, ◌<◌, ltb, get_or}
use Rattle.std.proofs.Math.Path.{refl}
use Rattle.std.proofs.Common.{subst, arith}
use Rattle.std.proofs.Math.Numerals.{add-one}
use borrow.Author.Tests.{lt-ltb, le-ltb, ltb-true}
use Rattle.hexdigits.specs.All.{all_none, all_more, all_end, all_not, all_at, all_each}
use Rattle.hexdigits.specs.Hex.{value, all_hex, number_at, Digits}

module _ (s : List ℕ) (a : ℕ) where
  pub hex_none : all_hex s a 0 ≡ true
  unfolding all_hex
  hex_none = all_none _

  pub hex_more : (i : ℕ) → all_hex s a i ≡ true → value (get_or s (a + i) 0) < 16 → all_hex s a (i + 1) ≡ true
  unfolding all_hex
  hex_more i g h = all_more _ g (lt-ltb _ 16 h)

  pub hex_end : {i n : ℕ} → all_hex s a i ≡ true → i ≤ n → n ≤ i → all_hex s a n ≡ true
  unfolding all_hex
  hex_end g h k = all_end _ g h k

  -- where each byte is a digit, all are
  pub hex_each : (n : ℕ) → ((k : ℕ) → k < n → value (get_or s (a + k) 0) < 16) → all_hex s a n ≡ true
  unfolding all_hex
  hex_each n h = all_each _ n (λ k l. lt-ltb _ 16 (h k l))

  -- a byte that is no digit
  pub hex_not : (i n : ℕ) → i < n → 16 ≤ value (get_or s (a + i) 0) → all_hex s a n ≡ false
  unfolding all_hex
  hex_not i n h e = all_not _ i n h (le-ltb _ 16 e)

  -- each of the digits is one
  pub hex_at : (n k : ℕ) → all_hex s a n ≡ true → k < n → value (get_or s (a + k) 0) < 16
  unfolding all_hex
  hex_at n k g h = ltb-true _ 16 (all_at _ n k g h)

  pub number_none : number_at s a 0 ≡ 0
  unfolding number_at
  number_none = refl

  pub number_more : (i : ℕ) → number_at s a (i + 1) ≡ number_at s a i * 16 + value (get_or s (a + i) 0)
  unfolding number_at
  number_more i = rw add-one

-- a part of a run of digits is one
pub part_digits : {s : List ℕ} {a m : ℕ} (b n : ℕ) → Digits s a m → a ≤ b → b + n ≤ a + m → Digits s b n
unfolding all_hex
part_digits {s} {a} {m} b n d h k =
    record { within = omega (arith, d.within); good = all_each _ n digit }
  where
    digit : (i : ℕ) → i < n → ltb (value (get_or s (b + i) 0)) 16 ≡ true
    digit i l =
        let e : a + (b - a + i) ≡ b + i = omega arith in
        subst (λ (x : ℕ). ltb (value (get_or s x 0)) 16 ≡ true) e (lt-ltb _ 16 (hex_at s a m (b - a + i) d.good (omega arith)))
