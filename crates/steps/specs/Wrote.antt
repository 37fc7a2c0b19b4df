-- A loop that writes one place a turn, each place once: what stands there afterwards, whatever the order. Assumes nothing.
use Rattle.std.specs.Prelude.{◌≡◌, refl, List, ℕ, ◌+◌, ◌*◌, ◌≤◌, ◌<◌, length, set, Float}
use Rattle.std.proofs.Common.{sym, ap, ◌∙◌, subst, ⊎_elim, eq-or-lt_of_le, arith, length-set, get_or-set_same, get_or-set_other}
use Rattle.std.specs.Float.{nan}
use Rattle.steps.specs.Num.{at, cell}
use Rattle.steps.specs.Table.{same_cell}

-- d' is d with g c at the place p c, for each c from lo to below hi
pub record Wrote (p : ℕ → ℕ) (lo hi : ℕ) (g : ℕ → Float) (d d' : List Float) : Type 0 where
  pub long : length d' ≡ length d
  pub done : (c : ℕ) → lo ≤ c → c < hi → at d' (p c) ≡ g c
  pub rest : (k : ℕ) → ((c : ℕ) → lo ≤ c → c < hi → k ≡ p c → ⊥) → at d' k ≡ at d k

-- the places are told apart by their numbers
abbrev pub Apart : (ℕ → ℕ) → ℕ → ℕ → Type 0
Apart p lo i = (c : ℕ) → lo ≤ c → c < i → p i ≡ p c → ⊥

pub wrote_none : (p : ℕ → ℕ) (lo : ℕ) (g : ℕ → Float) (d : List Float) → Wrote p lo lo g d d
wrote_none p lo g d = record { long = refl; done = λ c h h'. absurd (omega arith); rest = λ k ne. refl }

-- the place of this turn is as it was
pub wrote_now : (p : ℕ → ℕ) (lo i : ℕ) (g : ℕ → Float) (d d' : List Float) → Apart p lo i → Wrote p lo i g d d' → at d' (p i) ≡ at d (p i)
wrote_now p lo i g d d' ne w = w.rest (p i) ne

pub wrote_more : (p : ℕ → ℕ) (lo i : ℕ) (g : ℕ → Float) (d d' : List Float) (x : Float) → lo ≤ i → p i < length d → Apart p lo i → Wrote p lo i g d d' → x ≡ g i →
    Wrote p lo (i + 1) g d (set d' (p i) x)
wrote_more p lo i g d d' x l b ne w e =
    record {
      long = length-set d' (p i) x ∙ w.long;
      done = λ c h h'. ⊎_elim
          (λ q. subst (λ (k : ℕ). at (set d' (p i) x) (p k) ≡ g k) (sym q) (get_or-set_same d' (p i) x nan (subst (λ (k : ℕ). p i < k) (sym w.long) b) ∙ e))
          (λ z. get_or-set_other d' (p i) (p c) x nan (λ q. ne c h z (sym q)) ∙ w.done c h z)
          (eq-or-lt_of_le (let z : c ≤ i = omega arith in z));
      rest = λ k n. get_or-set_other d' (p i) k x nan (λ q. n i l (omega arith) q) ∙ w.rest k (λ c h h' q. n c h (omega arith) q);
    }

-- a turn that changes what stands at its place
pub wrote_turn : (p : ℕ → ℕ) (f : ℕ → Float → Float) (lo i : ℕ) (d d' : List Float) → lo ≤ i → p i < length d → Apart p lo i →
    Wrote p lo i (λ c. f c (at d (p c))) d d' → Wrote p lo (i + 1) (λ c. f c (at d (p c))) d (set d' (p i) (f i (at d' (p i))))
wrote_turn p f lo i d d' l b ne w = wrote_more p lo i (λ c. f c (at d (p c))) d d' _ l b ne w (ap (f i) (wrote_now p lo i _ d d' ne w))

pub wrote_end : (p : ℕ → ℕ) (lo i hi : ℕ) (g : ℕ → Float) (d d' : List Float) → Wrote p lo i g d d' → i ≤ hi → hi ≤ i → Wrote p lo hi g d d'
wrote_end p lo i hi g d d' w h h' = let e : i ≡ hi = omega arith in rw e at w

-- along the diagonal of a matrix of k columns each place is met once, and no other is met
pub diagonal_apart : (k p : ℕ) → p < k → Apart (λ c. c * k + c) 0 p
diagonal_apart k p h c l l' e = let q = same_cell k p p c c h (omega arith) e in omega arith

pub off_diagonal : (k i j : ℕ) (g : ℕ → Float) (d d' : List Float) → j < k → (i ≡ j → ⊥) → Wrote (λ c. c * k + c) 0 k g d d' → cell k d' i j ≡ cell k d i j
off_diagonal k i j g d d' h ne w = w.rest (i * k + j) (λ c l l' e. let q = same_cell k i j c c h l' e in ne (q.0 ∙ sym q.1))
