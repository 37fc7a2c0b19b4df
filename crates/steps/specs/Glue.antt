-- One slice that holds a list with another behind it. Assumes nothing.
use Rattle.std.specs.Prelude.{◌≡◌, refl, List, [], ◌++◌, ℕ, ◌+◌, ◌-◌, ◌≤◌, ◌<◌, length, take, drop, set, Float}
use Rattle.std.proofs.Common.{sym, ap, ◌∙◌, append-nil, arith, take-append-drop, length-drop, get_or-append-add, take_at, drop_at, drop-drop}
use Rattle.std.proofs.Math.Nat.{sub-zero}
use Rattle.std.proofs.Math.ListN.{get_or-append}
use Rattle.std.proofs.Math.Seq.{drop-length}
use Rattle.std.proofs.lemmas.List.{take-append-le, drop-append-le}
use Rattle.std.specs.Float.{nan}
use Rattle.steps.specs.Num.{at}
use Rattle.steps.specs.Loops.{loop, loop_none, loop_more}
use Rattle.steps.specs.Space.{part, with_part, set_append_add}

module _ (a b s : List Float) (k : ℕ) (len : length a ≡ k) (is : s ≡ a ++ b) where
  pub at_back : (i : ℕ) → at s (k + i) ≡ at b i
  at_back i = rw (is, ← len) (get_or-append-add a b i nan)

  pub at_front : (i : ℕ) → i < k → at s i ≡ at a i
  at_front i h = rw is (get_or-append a b nan i (rw len h))

  pub set_back : (i : ℕ) (v : Float) → set s (k + i) v ≡ a ++ set b i v
  set_back i v = rw (is, ← len) (set_append_add a b i v)

  pub take_front : take k s ≡ a
  take_front = rw is (take_at a b k len)

  pub drop_back : drop k s ≡ b
  drop_back = rw is (drop_at a b k len)

  -- what a callee says of the two lists
  pub seen : (F : List Float → List Float → List Float) {t : List Float} → t ≡ take k s ++ F (take k s) (drop k s) → t ≡ a ++ F a b
  seen F q = rw (take_front, drop_back) at q

-- a loop that writes the list behind: before its first turn, and one more turn
pub glued_none : (s : List Float) (k lo : ℕ) (f : ℕ → List Float → List Float) → s ≡ take k s ++ loop lo lo f (drop k s)
glued_none s k lo f = sym (rw (loop_none lo f (drop k s)) (take-append-drop k s))

pub glued_more : (a b s : List Float) (k lo i : ℕ) (f : ℕ → List Float → Float) (v : Float) → length a ≡ k → lo ≤ i →
    s ≡ a ++ loop lo i (λ j l. set l j (f j l)) b → v ≡ f i (loop lo i (λ j l. set l j (f j l)) b) → set s (k + i) v ≡ a ++ loop lo (i + 1) (λ j l. set l j (f j l)) b
glued_more a b s k lo i f v len h is e =
    set_back a _ s k len is i v
    ∙ ap (λ (z : List Float). a ++ z) (loop_more lo i (λ j l. set l j (f j l)) b h refl (ap (λ (z : Float). set (loop lo i (λ j l. set l j (f j l)) b) i z) e))

-- two parts that fill a slice are what stands there
pub both_parts : (k m : ℕ) (s a b : List Float) → length s ≡ k + m → length a ≡ k → with_part k (k + m) b (with_part 0 k a s) ≡ a ++ b
unfolding with_part
both_parts k m s a b ls la =
    rw (sub-zero, take_at a (drop k s) k la, drop_at a (drop k s) k la) (rw (rest, append-nil))
  where
    rest : drop (k + m - k) (drop k s) ≡ []
    rest = drop-drop (k + m - k) k s ∙ (let e : k + (k + m - k) ≡ length s = omega (arith, ls) in rw e (drop-length s))

-- the head of a slice was lent as t: what stands in it from k on is read there
pub read_behind : (k m n : ℕ) (w t : List Float) → length t ≡ k + m → n ≤ m → part k (k + n) (with_part 0 (k + m) t w) ≡ take n (drop k t)
unfolding with_part
read_behind k m n w t len tall =
    let e : k + n - k ≡ n = omega arith in
    let h : n ≤ length (drop k t) = simp length-drop (omega arith) in
    let g : k ≤ length t = omega arith in
    rw (e, drop-append-le k t (drop (k + m - 0) w) g, take-append-le n (drop k t) (drop (k + m - 0) w) h)
