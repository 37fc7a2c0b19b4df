-- The entries of a rectangle change: none, one entry, one rectangle beside or below another. Assumes nothing.
use mathlib.Core.Path.{◌≡◌, refl, ap, ◌∙◌}
use mathlib.Core.Logic.{dite}
use mathlib.Core.List.{List}
use Prim.Native.Nat.{ℕ, ◌+◌, ◌*◌, ◌≤◌, ◌<◌}
use native.Mathlib.Nat.{mul-le-mul_right}
use native.Mathlib.Omega.{arith}
use native.Mathlib.Decide.{dec_lt}
use lib.ListN.{length, set, length-set}
use lib.Seq.{get_or-set_same}
use lib.Ieee.{Float, nan}
use Rattle.steps.specs.Num.{cell}
use Rattle.steps.specs.Table.{cell_other}
use Rattle.pairs.specs.declared.page.Page.{Page}
use Rattle.pairs.specs.Grown.{with_rows, Change, Changed, Grew}

-- the page and the sums have room for each row
pub in_page : (page : Page) (i : ℕ) → i < page.rows → (i + 1) * page.cols ≤ length page.numbers.now
in_page page i l = let z : i + 1 ≤ page.rows = omega arith in omega (arith, page.room, mul-le-mul_right page.cols z)

pub in_square : (n : ℕ) (out : List Float) → length out ≡ n * n → (r : ℕ) → r ≤ n → r * n ≤ length out
in_square n out e r l = omega (arith, mul-le-mul_right n l)

module _ (f : Change) (n : ℕ) where
  -- no column, no row
  pub no_column : (r0 r1 c c' : ℕ) (s : List Float) → c' ≤ c → Changed f n r0 r1 c c' s s
  no_column r0 r1 c c' s h = record { long = refl; done = λ i j l m k. absurd (omega arith); rest = λ i j l m k. refl }

  pub no_row : (r r' c0 c1 : ℕ) (s : List Float) → r' ≤ r → Changed f n r r' c0 c1 s s
  no_row r r' c0 c1 s h = record { long = refl; done = λ i j l m k. absurd (omega arith); rest = λ i j l m k. refl }

  -- one rectangle, then the one on its right
  pub beside : (r0 r1 c0 c c1 c2 : ℕ) (s t u : List Float) → c0 ≤ c → c ≤ c1 → c2 ≡ c1 → Changed f n r0 r1 c0 c s t → Changed f n r0 r1 c c1 t u → Changed f n r0 r1 c0 c2 s u
  beside r0 r1 c0 c c1 c2 s t u le le' e g g' =
      record {
        long = g'.long ∙ g.long;
        done = λ i j l m k. dite (dec_lt j c)
            (λ (z : j < c). g'.rest i j l m (λ k'. omega arith) ∙ g.done i j l m (record { top = k.top; bottom = k.bottom; left = k.left; right = z }))
            (λ (z : j < c → ⊥).
            g'.done i j l m (record { top = k.top; bottom = k.bottom; left = omega arith; right = omega arith })
            ∙ ap (f i j) (g.rest i j l m (λ k'. z k'.right)));
        rest = λ i j l m k.
            g'.rest i j l m (λ k'. k (record { top = k'.top; bottom = k'.bottom; left = omega arith; right = omega arith }))
            ∙ g.rest i j l m (λ k'. k (record { top = k'.top; bottom = k'.bottom; left = k'.left; right = omega arith }));
      }

  -- one rectangle, then the one below it
  pub below : (r0 r r1 r2 c0 c1 : ℕ) (s t u : List Float) → r0 ≤ r → r ≤ r1 → r2 ≡ r1 → Changed f n r0 r c0 c1 s t → Changed f n r r1 c0 c1 t u → Changed f n r0 r2 c0 c1 s u
  below r0 r r1 r2 c0 c1 s t u le le' e g g' =
      record {
        long = g'.long ∙ g.long;
        done = λ i j l m k. dite (dec_lt i r)
            (λ (z : i < r). g'.rest i j l m (λ k'. omega arith) ∙ g.done i j l m (record { top = k.top; bottom = z; left = k.left; right = k.right }))
            (λ (z : i < r → ⊥).
            g'.done i j l m (record { top = omega arith; bottom = omega arith; left = k.left; right = k.right })
            ∙ ap (f i j) (g.rest i j l m (λ k'. z k'.bottom)));
        rest = λ i j l m k.
            g'.rest i j l m (λ k'. k (record { top = omega arith; bottom = omega arith; left = k'.left; right = k'.right }))
            ∙ g.rest i j l m (λ k'. k (record { top = k'.top; bottom = omega arith; left = k'.left; right = k'.right }));
      }

  -- left of its rows' diagonal a rectangle has no entry
  pub from_zero : (r0 r1 c1 : ℕ) (s t : List Float) → Changed f n r0 r1 r0 c1 s t → Changed f n r0 r1 0 c1 s t
  from_zero r0 r1 c1 s t g =
      record {
        long = g.long;
        done = λ i j l m k. g.done i j l m (record { top = k.top; bottom = k.bottom; left = omega arith; right = k.right });
        rest = λ i j l m k. g.rest i j l m (λ k'. k (record { top = k'.top; bottom = k'.bottom; left = omega arith; right = k'.right }));
      }

  -- one entry
  pub one_entry : (r q : ℕ) (s : List Float) (x : Float) → (r + 1) * n ≤ length s → q < n → x ≡ f r q (cell n s r q) → Changed f n r (r + 1) q (q + 1) s (set s (r * n + q) x)
  one_entry r q s x room hq is =
      record {
        long = length-set s (r * n + q) x;
        done = λ i j l m k.
            let e : i ≡ r = omega arith in
            let e' : j ≡ q = omega arith in
            rw (e, e') (get_or-set_same s (r * n + q) x nan (omega arith) ∙ is);
        rest = λ i j l m k. cell_other s n r q i j x nan hq m (λ a a'. k (record { top = omega arith; bottom = omega arith; left = omega arith; right = omega arith }));
      }

-- the entries that a page's rows made of s, put to s
pub put_grown : (page : List Float) (n h r0 r1 c0 c1 : ℕ) (s t : List Float) → Changed (λ r c x. with_rows page n h s r c) n r0 r1 c0 c1 s t → Grew page n h r0 r1 c0 c1 s t
unfolding with_rows
put_grown page n h r0 r1 c0 c1 s t g = record { long = g.long; done = g.done; rest = g.rest }
