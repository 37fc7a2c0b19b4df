-- A run of digits as a slice lends it, byte by byte. Assumes nothing.
use Rattle.std.proofs.Common.{◌≡◌, ◌∙◌, sym, ℕ, ◌+◌, ◌-◌, ◌≤◌, ◌<◌, Bool, true, false, MatchBool, List, length, get_or, take, drop, Some, arith, length-take, length-drop, get_or-take, get_or-drop}
use Rattle.std.specs.List.{AllWithin, HoldsAt}
use Rattle.std.proofs.lemmas.Bool.Decides.{nat_tests}
use Rattle.hexdigits.specs.Hex.{value, digit, all_hex}
use Rattle.hexdigits.specs.Parts.{hex_each, hex_not}

-- the n bytes of s from a on
abbrev pub run : List ℕ → ℕ → ℕ → List ℕ
run s a n = take (a + n - a) (drop a s)

module _ (s : List ℕ) (a n : ℕ) where
  pub run_long : a + n ≤ length s → length (run s a n) ≡ n
  run_long h = simp (length-take, length-drop) (omega arith)

  pub run_byte : (i : ℕ) → i < length (run s a n) → get_or (run s a n) i 0 ≡ get_or s (a + i) 0
  run_byte i h =
      let k : i < a + n - a = omega (arith, simp length-take at h) in
      get_or-take (a + n - a) (drop a s) i 0 k ∙ get_or-drop a s i 0

  -- what a search for a byte that is no digit answers
  pub hex_answer : (r : Bool) → a + n ≤ length s
      → MatchBool r (AllWithin (λ b. value b < 16) (run s a n) 0 (length (run s a n))) ((k : ℕ) × (k < length (run s a n)) × HoldsAt (λ b. 16 ≤ value b) (run s a n) k)
      → r ≡ all_hex s a n
  hex_answer true h e =
      sym (hex_each s a n (λ k l. let below : k < length (run s a n) = omega (arith, run_long h) in rw (← run_byte k below) (e k 0 (omega arith) below)))
  hex_answer false h e = sym (hex_not s a e.0 n (omega (arith, run_long h, e.1)) (rw (← run_byte e.0 e.1) (e.2 0)))

pub digit_known : (b : ℕ) → value b < 16 → digit b ≡ Some (value b)
unfolding digit
digit_known b h = grind (arith, nat_tests)

pub digit_is : (b v : ℕ) → digit b ≡ Some v → (v ≡ value b) × (value b < 16)
unfolding digit
digit_is b v e = grind (arith, nat_tests)
