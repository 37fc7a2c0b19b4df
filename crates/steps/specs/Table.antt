-- A list given by its numbers, and a matrix given by its entries, stored by rows. Assumes nothing.
use Rattle.std.specs.Prelude.{◌≡◌, get_or, replicate}
use Rattle.std.proofs.Math.Path.{refl, ap}
use Rattle.std.proofs.Common.{sym, ◌∙◌, subst, le_of_suc-le-suc, not-suc-le-zero, mod-lt, div-add-mod', div-lt_iff_lt-mul, eq-zero-or-pos, mul-le-mul_right, suc-mul, arith, ext_get_or, get_or-set_other}
use Rattle.std.proofs.Math.Logic.{⊎_elim}
use mathlib.Core.List.{List, [], ◌∷◌, ◌++◌, append-nil}
use Prim.Native.Nat.{ℕ, zero, suc, ◌+◌, ◌*◌, ◌/◌, ◌%◌, ◌≤◌, ◌<◌}
use Rattle.std.proofs.Math.Nat.{mul-zero}
use Rattle.std.proofs.Math.Numerals.{add-one}
use Rattle.std.proofs.Math.Arith.{digits_div, digits_mod, digits_lt}
use Rattle.std.proofs.Math.ListN.{length, set, drop}
use Rattle.std.proofs.Math.Seq.{drop-length}

-- row r ends within m rows of n numbers
pub row_fits : (m n r : ℕ) → r < m → r * n + n ≤ m * n
row_fits m n r h = rw suc-mul at (mul-le-mul_right n h)

-- two entries at one place of a matrix of n columns are one entry
pub same_cell : (n i j i' j' : ℕ) → j < n → j' < n → i * n + j ≡ i' * n + j' → (i ≡ i') × (j ≡ j')
same_cell n i j i' j' h h' e =
    (sym (digits_div i h) ∙ ap (λ (x : ℕ). x / n) e ∙ digits_div i' h', sym (digits_mod i h) ∙ ap (λ (x : ℕ). x % n) e ∙ digits_mod i' h')

module _ {ℓ} {A : Type ℓ} where
  -- f 0, f 1, .., f (n - 1)
  unfoldable pub tab : ℕ → (ℕ → A) → List A
  tab zero f = []
  tab (suc n) f = f zero ∷ tab n (λ k. f (suc k))

  pub length_tab : (n : ℕ) (f : ℕ → A) → length (tab n f) ≡ n
  unfolding tab
  length_tab zero f = refl
  length_tab (suc n) f = ap suc (length_tab n (λ k. f (suc k)))

  pub get_or_tab : (n : ℕ) (f : ℕ → A) (i : ℕ) (d : A) → i < n → get_or (tab n f) i d ≡ f i
  unfolding tab
  get_or_tab zero f i d h = absurd (not-suc-le-zero h)
  get_or_tab (suc n) f zero d h = refl
  get_or_tab (suc n) f (suc i) d h = get_or_tab n (λ k. f (suc k)) i d (le_of_suc-le-suc h)

  -- a list with those numbers is that list
  pub is_tab : (n : ℕ) (f : ℕ → A) (l : List A) (d : A) → length l ≡ n → ((i : ℕ) → i < n → get_or l i d ≡ f i) → l ≡ tab n f
  is_tab n f l d len h = ext_get_or d l (tab n f) (len ∙ sym (length_tab n f)) (λ i k. let b : i < n = omega (arith, len) in h i b ∙ sym (get_or_tab n f i d b))

  pub tab_cong : (n : ℕ) (f g : ℕ → A) → ((i : ℕ) → i < n → f i ≡ g i) → tab n f ≡ tab n g
  unfolding tab
  tab_cong zero f g h = refl
  tab_cong (suc n) f g h = rw (h zero (omega arith)) (ap (λ (l : List A). g zero ∷ l) (tab_cong n (λ k. f (suc k)) (λ k. g (suc k)) (λ i k. h (suc i) (omega arith))))

  pub tab_replicate : (n : ℕ) (a : A) → tab n (λ k. a) ≡ replicate n a
  unfolding tab
  tab_replicate zero a = refl
  tab_replicate (suc n) a = ap (λ (l : List A). a ∷ l) (tab_replicate n a)

  -- the first i numbers of d taken by f 0 .. f (i - 1): a loop that writes a slice in order
  unfoldable pub filled : (ℕ → A) → ℕ → List A → List A
  filled f i d = tab i f ++ drop i d

  pub filled_none : (f : ℕ → A) (d : List A) → d ≡ filled f 0 d
  unfolding filled tab
  filled_none f d = refl

  pub filled_more : (f : ℕ → A) (i : ℕ) (d : List A) → i < length d → set (filled f i d) i (f i) ≡ filled f (i + 1) d
  unfolding filled tab
  filled_more f i d h = rw add-one (go f i d h)
    where
      go : (f : ℕ → A) (i : ℕ) (d : List A) → i < length d → set (tab i f ++ drop i d) i (f i) ≡ tab (suc i) f ++ drop (suc i) d
      go f i [] h = absurd (not-suc-le-zero h)
      go f zero (x ∷ d) h = refl
      go f (suc i) (x ∷ d) h = ap (λ (l : List A). f zero ∷ l) (go (λ k. f (suc k)) i d (le_of_suc-le-suc h))

  pub filled_end : (f : ℕ → A) (n : ℕ) (d : List A) → length d ≡ n → filled f n d ≡ tab n f
  unfolding filled
  filled_end f n d e = rw (← e, drop-length, append-nil)

  -- the m by n matrix of the entries f
  unfoldable pub table : ℕ → ℕ → (ℕ → ℕ → A) → List A
  table m n f = tab (m * n) (λ k. f (k / n) (k % n))

  pub length_table : (m n : ℕ) (f : ℕ → ℕ → A) → length (table m n f) ≡ m * n
  unfolding table
  length_table m n f = length_tab _ _

  pub at_table : (m n : ℕ) (f : ℕ → ℕ → A) (i j : ℕ) (d : A) → i < m → j < n → get_or (table m n f) (i * n + j) d ≡ f i j
  unfolding table
  at_table m n f i j d hi hj = get_or_tab (m * n) _ (i * n + j) d (digits_lt hi hj) ∙ rw (digits_div i hj, digits_mod i hj)

  -- a list of m * n numbers with those entries is that matrix
  pub is_table : (m n : ℕ) (f : ℕ → ℕ → A) (l : List A) (d : A) → length l ≡ m * n → ((i j : ℕ) → i < m → j < n → get_or l (i * n + j) d ≡ f i j) → l ≡ table m n f
  is_table m n f l d len h = ext_get_or d l (table m n f) (len ∙ sym (length_table m n f)) (λ k hk. one k (rw len at hk))
    where
      some : (k : ℕ) → k < m * n → 0 < n
      some k hk = ⊎_elim (λ e. let z : m * n ≡ 0 = ap (λ (x : ℕ). m * x) e ∙ mul-zero m in omega arith) (λ h. h) (eq-zero-or-pos n)

      one : (k : ℕ) → k < m * n → get_or l k d ≡ get_or (table m n f) k d
      one k hk =
          let pos = some k hk in
          let hi : k / n < m = (div-lt_iff_lt-mul pos).1 hk in
          let hj : k % n < n = mod-lt k pos in
          subst (λ (x : ℕ). get_or l x d ≡ get_or (table m n f) x d) (div-add-mod' k n) (h _ _ hi hj ∙ sym (at_table m n f _ _ d hi hj))

  pub table_cong : (m n : ℕ) (f g : ℕ → ℕ → A) → ((i j : ℕ) → i < m → j < n → f i j ≡ g i j) → table m n f ≡ table m n g
  unfolding table
  table_cong m n f g h = tab_cong (m * n) _ _ (λ k hk. h (k / n) (k % n) (row k hk) (mod-lt k (some k hk)))
    where
      some : (k : ℕ) → k < m * n → 0 < n
      some k hk = ⊎_elim (λ e. let z : m * n ≡ 0 = ap (λ (x : ℕ). m * x) e ∙ mul-zero m in omega arith) (λ h. h) (eq-zero-or-pos n)

      row : (k : ℕ) → k < m * n → k / n < m
      row k hk = (div-lt_iff_lt-mul (some k hk)).1 hk

  -- an entry of a matrix after a store at another row or column
  pub cell_other : (l : List A) (n i j i' j' : ℕ) (v d : A) → j < n → j' < n → (i' ≡ i → j' ≡ j → ⊥) → get_or (set l (i * n + j) v) (i' * n + j') d ≡ get_or l (i' * n + j') d
  cell_other l n i j i' j' v d h h' ne =
      get_or-set_other l (i * n + j) (i' * n + j') v d (λ e. let q = same_cell n i' j' i j h' h e in ne q.0 q.1)
