-- A solve gives one value a column, each made by an operation, and over the full support it is the solve of all columns. Assumes nothing.
use Rattle.std.specs.Prelude.{◌≡◌, refl, ◌⊎◌, true, cond, ℕ, ◌+◌, ◌≤◌, ◌<◌, ltb, length, Float}
use Rattle.std.proofs.Common.{sym, ap₂, ◌∙◌, inl, inr, arith, lt-ltb, le-ltb}
use Rattle.std.proofs.Math.Path.{ap}
use mathlib.Core.List.{List}
use Rattle.std.specs.Int.Count.{ones}
use Rattle.std.specs.Float.{nan}
use Rattle.steps.specs.Num.{+zero, at, Entry}
use Rattle.steps.specs.Cond.{either, lt_or_ge}
use Rattle.steps.specs.Table.{tab, is_tab, tab_cong, table_cong}
use Rattle.float64.specs.Root.{root_of}
use Rattle.support.specs.Word.{has, place, full}
use Rattle.support.specs.SupportLaws.{has_full}
use Rattle.support.specs.CountLaws.{ones_full, place_is, count_full}
use Rattle.refusal.specs.Answers.{solved, solution}
use Rattle.places.specs.Columns.{columns}
use Rattle.places.specs.ColumnLaws.{columns_full}
use Rattle.sums.specs.Products.{gram, moment, ridge, marquardt, jtj_matrix, jtr_column}
use Rattle.sums.specs.ProductLaws.{gram_cong, moment_cong, jtj_cong}
use Rattle.normal.specs.Normal.{normal}
use Rattle.least.specs.Least.{least}
use Rattle.rule.specs.declared.Solver.{Solver}
use Rattle.rule.specs.declared.Solver.TheVariants.{Normal, Qr, Marquardt}
use Rattle.rule.specs.Rule.{scatter}
use Rattle.rule.specs.Fits.{by_sums, by_normal, augmented, padded, by_least, solves}
use Rattle.rule.specs.Rounded.{Rounded, Column, anything, sum_made, tab_column}
use Rattle.rule.specs.RightSides.{normal_column, least_column}

-- ---- one value a column, each the result of an operation

module _ {Q : Float → Type 0} (made : Rounded Q) where
  -- by the normal equations, however the sums were made and are damped
  pub sums_column : (damp : Float → Float) (c : ℕ) (g : Entry) (m : ℕ → Float) (vs : List Float) → ((p : ℕ) → Q (m p)) → by_sums damp c g m ≡ solved vs → Column Q c vs
  unfolding by_sums jtr_column
  sums_column damp c g m vs h q = normal_column made c (jtj_matrix damp c g) (tab c m) vs (tab_column made c m h) q

  by_normal_column : (damp : Float → Float) (t : ℕ → Float) (rows c : ℕ) (e : Entry) (vs : List Float) → by_normal damp t rows c e ≡ solved vs → Column Q c vs
  unfolding by_normal moment
  by_normal_column damp t rows c e vs q = sums_column damp c (gram e rows) (moment e t rows) vs (λ p. sum_made made +zero 0 rows _ made.nought) q

  -- a solve of c columns gives c values, Q of each, where Q holds of the target's numbers
  pub solved_column : (solver : Solver) (lambda : Float) (t : ℕ → Float) (rows c : ℕ) (e : Entry) (vs : List Float) → ((i : ℕ) → Q (t i)) → solves solver lambda t rows c e ≡ solved vs → Column Q c vs
  unfolding solves by_least padded
  solved_column Normal lambda t rows c e vs h q = by_normal_column (ridge lambda) t rows c e vs q
  solved_column Qr lambda t rows c e vs h q =
      let right = tab_column made (rows + c) (padded rows t) (λ i. either Q (ltb i rows) (t i) +zero (λ k. h i) (λ k. made.nought)) in
      least_column made (rows + c) c _ _ vs (omega arith) right q
  solved_column Marquardt lambda t rows c e vs h q = by_normal_column (marquardt lambda) t rows c e vs q

pub one_a_column : (solver : Solver) (lambda : Float) (t : ℕ → Float) (rows c : ℕ) (e : Entry) (vs : List Float) → solves solver lambda t rows c e ≡ solved vs → length vs ≡ c
one_a_column solver lambda t rows c e vs q = (solved_column anything solver lambda t rows c e vs (λ i. tt) q).long

-- ---- which entries it looks at

-- by the normal equations: only at the sums of its columns
pub sums_cong : (damp : Float → Float) (c : ℕ) (g h : Entry) (m k : ℕ → Float) → ((p q : ℕ) → p < c → q < c → g p q ≡ h p q) → ((p : ℕ) → p < c → m p ≡ k p)
    → by_sums damp c g m ≡ by_sums damp c h k
unfolding by_sums jtr_column
sums_cong damp c g h m k a b = ap₂ (λ (x y : List Float). solution (normal c x y)) (jtj_cong damp c g h a) (tab_cong c m k b)

-- a solve looks only at the entries of its rows and columns
module _ (rows c : ℕ) (e f : Entry) (h : (i p : ℕ) → i < rows → p < c → e i p ≡ f i p) where
  augmented_cong : (root : Float) (i p : ℕ) → p < c → (i < rows) ⊎ (rows ≤ i) → augmented rows root e i p ≡ augmented rows root f i p
  unfolding augmented
  augmented_cong root i p b (inl l) = rw (lt-ltb i rows l) (h i p l b)
  augmented_cong root i p b (inr l) = rw (le-ltb i rows l)

  by_normal_cong : (damp : Float → Float) (t : ℕ → Float) → by_normal damp t rows c e ≡ by_normal damp t rows c f
  unfolding by_normal
  by_normal_cong damp t =
      sums_cong damp c _ _ _ _ (λ p q a b. gram_cong e f rows p q (λ i l. h i p l a) (λ i l. h i q l b)) (λ p a. moment_cong e f t rows p (λ i l. h i p l a))

  pub solves_cong : (solver : Solver) (lambda : Float) (t : ℕ → Float) → solves solver lambda t rows c e ≡ solves solver lambda t rows c f
  unfolding solves by_least
  solves_cong Normal lambda t = by_normal_cong (ridge lambda) t
  solves_cong Qr lambda t =
      ap (λ (a : List Float). least (rows + c) c a (tab (rows + c) (padded rows t)))
      (table_cong (rows + c) c _ _ (λ i p a b. augmented_cong (root_of lambda) i p b (lt_or_ge i rows)))
  solves_cong Marquardt lambda t = by_normal_cong (marquardt lambda) t

-- over the full support it is the solve of all columns
pub solves_full : (solver : Solver) (lambda : Float) (t : ℕ → Float) (rows n : ℕ) (e : Entry) → n ≤ 64
    → solves solver lambda t rows (ones (full n)) (columns n (full n) e) ≡ solves solver lambda t rows n e
solves_full solver lambda t rows n e h =
    ap (λ (c : ℕ). solves solver lambda t rows c (columns n (full n) e)) (ones_full n h)
    ∙ solves_cong rows n (columns n (full n) e) e (λ i p k l. columns_full n e i p h l) solver lambda t

-- over the full support each value is at its own place
pub scatter_full : (n : ℕ) (vs : List Float) → n ≤ 64 → length vs ≡ n → scatter n (full n) vs ≡ vs
unfolding scatter
scatter_full n vs h l = tab_cong n _ (at vs) own ∙ sym (is_tab n (at vs) vs nan l (λ i k. refl))
  where
    own : (j : ℕ) → j < n → cond (has (full n) j) (at vs (place (full n) j)) +zero ≡ at vs j
    own j k =
        let in_it : has (full n) j ≡ true = has_full n j (omega arith) ∙ lt-ltb j n k in
        let there : place (full n) j ≡ j = place_is (full n) j ∙ count_full n j h (omega arith) in
        rw (in_it, there)
