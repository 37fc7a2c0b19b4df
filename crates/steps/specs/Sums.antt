-- Sums from a given start, by rising index: every addition, or subtraction, rounds once. Assumes nothing.
use Rattle.std.specs.Prelude.{◌≡◌, refl, ℕ, zero, suc, ◌+◌, ◌≤◌, ◌<◌, Float}
use Rattle.std.proofs.Common.{sym, ap, ap₂, ◌∙◌, add-zero, arith}
use Rattle.steps.specs.Num.{plus, less}
use Rattle.steps.specs.Loops.{loop, loop_none, loop_step, loop_end, loop_cong}

-- z + f lo + .. + f (hi - 1)
unfoldable pub sum : Float → ℕ → ℕ → (ℕ → Float) → Float
sum z lo hi f = loop lo hi (λ k s. plus s (f k)) z

pub sum_none : (z : Float) (lo : ℕ) (f : ℕ → Float) → sum z lo lo f ≡ z
unfolding sum
sum_none z lo f = loop_none lo (λ k s. plus s (f k)) z

-- one more term, as an invariant `s ≡ sum z lo i f` asks it
pub sum_more : (z : Float) (lo i : ℕ) (f : ℕ → Float) {s x : Float} → lo ≤ i → s ≡ sum z lo i f → x ≡ f i → plus s x ≡ sum z lo (i + 1) f
unfolding sum
sum_more z lo i f h p q = ap₂ plus p q ∙ sym (loop_step lo i (λ k s. plus s (f k)) z h)

pub sum_end : (z : Float) (lo i hi : ℕ) (f : ℕ → Float) {s : Float} → s ≡ sum z lo i f → i ≤ hi → hi ≤ i → s ≡ sum z lo hi f
unfolding sum
sum_end z lo i hi f p h k = loop_end lo i hi (λ k s. plus s (f k)) z p h k

-- sums of the same terms are the same
pub sum_cong : (z : Float) (lo hi : ℕ) (f g : ℕ → Float) → ((i : ℕ) → lo ≤ i → i < hi → f i ≡ g i) → sum z lo hi f ≡ sum z lo hi g
unfolding sum
sum_cong z lo hi f g h = loop_cong lo hi _ _ z (λ i s a b. ap (plus s) (h i a b))

-- a sum goes on from what it is after i terms
pub sum_on : (z : Float) (i h : ℕ) (f : ℕ → Float) → sum z 0 (i + h) f ≡ sum (sum z 0 i f) 0 h (λ k. f (i + k))
sum_on z i zero f = rw add-zero (sym (sum_none _ _ _))
sum_on z i (suc h) f =
    let e : i + suc h ≡ i + h + 1 = omega arith in
    let e' : suc h ≡ h + 1 = omega arith in
    ap (λ (k : ℕ). sum z 0 k f) e
    ∙ sym (sum_more z 0 (i + h) f (omega arith) refl refl)
    ∙ sum_more (sum z 0 i f) 0 h (λ k. f (i + k)) (omega arith) (sum_on z i h f) refl
    ∙ ap (λ (k : ℕ). sum (sum z 0 i f) 0 k (λ k. f (i + k))) (sym e')

-- z - f lo - .. - f (hi - 1)
unfoldable pub less_sum : Float → ℕ → ℕ → (ℕ → Float) → Float
less_sum z lo hi f = loop lo hi (λ k s. less s (f k)) z

pub less_sum_none : (z : Float) (lo : ℕ) (f : ℕ → Float) → less_sum z lo lo f ≡ z
unfolding less_sum
less_sum_none z lo f = loop_none lo (λ k s. less s (f k)) z

pub less_sum_more : (z : Float) (lo i : ℕ) (f : ℕ → Float) {s x : Float} → lo ≤ i → s ≡ less_sum z lo i f → x ≡ f i → less s x ≡ less_sum z lo (i + 1) f
unfolding less_sum
less_sum_more z lo i f h p q = ap₂ less p q ∙ sym (loop_step lo i (λ k s. less s (f k)) z h)

pub less_sum_end : (z : Float) (lo i hi : ℕ) (f : ℕ → Float) {s : Float} → s ≡ less_sum z lo i f → i ≤ hi → hi ≤ i → s ≡ less_sum z lo hi f
unfolding less_sum
less_sum_end z lo i hi f p h k = loop_end lo i hi (λ k s. less s (f k)) z p h k
