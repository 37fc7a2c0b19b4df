-- A workspace, its parts, and what clearing and swapping leave. Assumes nothing.
use Rattle.std.specs.Prelude.{◌≡◌, refl, List, [], ◌∷◌, ◌++◌, ℕ, zero, suc, ◌+◌, ◌-◌, ◌≤◌, ◌<◌, set, take, replicate, get_or, Float}
use Rattle.std.proofs.Common.{sym, ◌∙◌, subst, append-nil, not-suc-le-zero, le_of_suc-le-suc, zero-add, suc-add, add-zero, add-one, length-append, length-drop, drop_at, get_or-append-add, get_or-take, get_or-drop}
use Rattle.std.proofs.Math.Path.{ap}
use native.Mathlib.Omega.{arith}
use Rattle.std.proofs.Math.ListN.{length, drop, length-take, get_or-append}
use Rattle.std.proofs.lemmas.List.{length-replicate, get_or-replicate}
use Rattle.std.proofs.Math.Seq.{take_at, drop-drop, drop-append-add, drop-length}
use Rattle.std.specs.Float.{nan}
use Rattle.steps.specs.Num.{+zero, at}

-- the first k numbers are +0.0, the others as they were
unfoldable pub cleared : ℕ → List Float → List Float
cleared k s = replicate k +zero ++ drop k s

-- the part of s from a to below e
abbrev pub part : ℕ → ℕ → List Float → List Float
part a e s = take (e - a) (drop a s)

-- what stands in it
pub at_part : (a e : ℕ) (s : List Float) (m : ℕ) → m < e - a → at (part a e s) m ≡ at s (a + m)
at_part a e s m l = get_or-take (e - a) (drop a s) m nan l ∙ rw get_or-drop

-- s with the part from a to below e taken by t, as a lent part comes back
unfoldable pub with_part : ℕ → ℕ → List Float → List Float → List Float
with_part a e t s = take a s ++ (t ++ drop (e - a) (drop a s))

-- l with the numbers at x and y changed over
unfoldable pub swapped : ℕ → ℕ → List Float → List Float
swapped x y l = set (set l x (at l y)) y (at l x)

pub cleared_none : (s : List Float) → s ≡ cleared 0 s
unfolding cleared
cleared_none s = refl

-- a head that is filled with zeros
pub cleared_filled : (k : ℕ) (s t : List Float) → k ≤ length s → t ≡ replicate (length (take k s)) +zero → t ++ drop k s ≡ cleared k s
unfolding cleared
cleared_filled k s t h e = let e₁ : length (take k s) ≡ k = simp length-take (omega arith) in rw (e, e₁)

fill_suc : (k : ℕ) (v : Float) (d : List Float) → k < length d → set (replicate k v ++ drop k d) k v ≡ replicate (suc k) v ++ drop (suc k) d
fill_suc k v [] l = absurd (not-suc-le-zero l)
fill_suc zero v (x ∷ d) l = refl
fill_suc (suc k) v (x ∷ d) l = ap (λ (t : List Float). v ∷ t) (fill_suc k v d (le_of_suc-le-suc l))

pub cleared_more : (k : ℕ) (s : List Float) → k < length s → set (cleared k s) k +zero ≡ cleared (k + 1) s
unfolding cleared
cleared_more k s h = rw add-one (fill_suc k +zero s h)

module _ (a e : ℕ) (t s : List Float) (h : a ≤ e) (h' : e ≤ length s) (len : length t ≡ e - a) where
  before_len : length (take a s) ≡ a
  before_len = simp length-take (omega arith)

  pub length_with : length (with_part a e t s) ≡ length s
  unfolding with_part
  length_with = simp (length-append, length-take, length-drop) (omega (arith, len))

  -- the part is what was put there
  pub part_with : part a e (with_part a e t s) ≡ t
  unfolding with_part
  part_with = rw (drop_at (take a s) _ a before_len, take_at t _ (e - a) len)

  -- what stands past k, at or past the part's end, is as it was
  pub drop_with : (k : ℕ) → e ≤ k → drop k (with_part a e t s) ≡ drop k s
  unfolding with_part
  drop_with k hk =
      let e₁ : k ≡ length (take a s) + (length t + (k - e)) = omega (arith, before_len, len) in
      let e₂ : a + (e - a + (k - e)) ≡ k = omega arith in
      ap (λ (n : ℕ). drop n (take a s ++ (t ++ drop (e - a) (drop a s)))) e₁
      ∙ drop-append-add (take a s) _ _ ∙ drop-append-add t _ _
      ∙ drop-drop (k - e) (e - a) (drop a s) ∙ drop-drop (e - a + (k - e)) a s ∙ ap (λ (n : ℕ). drop n s) e₂

-- a store in what follows xs
pub set_append_add : (xs ys : List Float) (k : ℕ) (v : Float) → set (xs ++ ys) (length xs + k) v ≡ xs ++ set ys k v
set_append_add [] ys k v = rw zero-add
set_append_add (x ∷ xs) ys k v = rw suc-add (ap (λ (l : List Float). x ∷ l) (set_append_add xs ys k v))

-- a read in a part
pub get_with : (a e : ℕ) (t s : List Float) (k : ℕ) (d : Float) → a ≤ length s → k < length t → get_or (with_part a e t s) (a + k) d ≡ get_or t k d
unfolding with_part
get_with a e t s k d h hk =
    let len : length (take a s) ≡ a = simp length-take (omega arith) in
    subst (λ (n : ℕ). get_or (take a s ++ (t ++ drop (e - a) (drop a s))) (n + k) d ≡ get_or t k d) len
    (get_or-append-add (take a s) _ k d ∙ get_or-append t _ d k hk)

-- what stands before a part
pub front_with : (a e : ℕ) (t s : List Float) → a ≤ length s → take a (with_part a e t s) ≡ take a s
unfolding with_part
front_with a e t s h = take_at (take a s) _ a (simp length-take (omega arith))

-- clearing looks only past the cleared numbers
pub cleared_same : (k : ℕ) (s t : List Float) → drop k s ≡ drop k t → cleared k s ≡ cleared k t
unfolding cleared
cleared_same k s t h = ap (λ (l : List Float). replicate k +zero ++ l) h

-- clearing a workspace forgets a part within what is cleared
pub cleared_with : (a e k : ℕ) (t s : List Float) → a ≤ e → e ≤ k → k ≤ length s → length t ≡ e - a → cleared k (with_part a e t s) ≡ cleared k s
cleared_with a e k t s h hk h' len = cleared_same k _ s (drop_with a e t s h (omega arith) len k hk)

-- so of a workspace whose head was lent
pub cleared_head : (k need : ℕ) (t w : List Float) → k ≤ need → need ≤ length w → length t ≡ length (take (k - 0) w) → cleared need (with_part 0 k t w) ≡ cleared need w
cleared_head k need t w h h' len = cleared_with 0 k need t w (omega arith) h h' (len ∙ simp length-take (omega arith))

-- what stands past a part is as it was
pub get_after : (a e : ℕ) (t s : List Float) (k : ℕ) → a ≤ e → e ≤ length s → length t ≡ e - a → e ≤ k → at (with_part a e t s) k ≡ at s k
get_after a e t s k h h' len hk =
    sym (first (with_part a e t s)) ∙ ap (λ (l : List Float). get_or l 0 nan) (drop_with a e t s h h' len k hk) ∙ first s
  where
    first : (l : List Float) → get_or (drop k l) 0 nan ≡ at l k
    first l = get_or-drop k l 0 nan ∙ rw add-zero

-- lists with the same first h numbers have the same number at each of those places
pub same_head : (h i : ℕ) (s t : List Float) → i < h → take h s ≡ take h t → at s i ≡ at t i
same_head h i s t l e = sym (get_or-take h s i nan l) ∙ ap (λ (x : List Float). at x i) e ∙ get_or-take h t i nan l

-- a cleared number
pub at_cleared : (k i : ℕ) (s : List Float) → i < k → at (cleared k s) i ≡ +zero
unfolding cleared
at_cleared k i s h = get_or-append (replicate k +zero) (drop k s) nan i (simp length-replicate h) ∙ get_or-replicate k i +zero nan h

-- clearing the whole
pub cleared_all : (k : ℕ) (s : List Float) → length s ≡ k → cleared k s ≡ replicate k +zero
unfolding cleared
cleared_all k s e = rw (← e, drop-length, append-nil)
