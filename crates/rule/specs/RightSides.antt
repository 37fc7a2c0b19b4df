-- Each solve writes its right-hand side with results of operations only: what holds of every such result holds of its values. Assumes nothing.
use Rattle.std.proofs.Math.Path.{◌≡◌}
use mathlib.Core.List.{List}
use Rattle.std.specs.Prelude.{ℕ, ◌≤◌, eqb}
use Rattle.std.proofs.Common.{arith}
use Rattle.std.proofs.Math.ListN.{take}
use Rattle.std.specs.Float.Ieee.{Float, lt}
use Rattle.steps.specs.Num.{1e-15, at, cell}
use Rattle.steps.specs.Cond.{either}
use Rattle.steps.specs.Loops.{Way, going, stopped, final, loop_keeps, down_keeps, way_keeps, way_down_keeps}
use Rattle.steps.specs.Space.{swapped}
use Rattle.float64.specs.Root.{abs_of}
use Rattle.refusal.specs.Answers.{solved, solution}
use Rattle.transpose.specs.Transpose.{qt_column, qt}
use Rattle.householder.specs.Qr.{after, betas}
use Rattle.cholesky.specs.Cholesky.{forward_at, back_at, chol_forward, chol_back, chol_end, chol_factor, cholesky}
use Rattle.lu.specs.Lu.{pivot_row, swap_rows, lu_swap, lu_eliminate, lu_pivoted, lu_column, lu_factor, lu_forward, lu_back, lu_end, lu}
use Rattle.normal.specs.Normal.{right_side, or_lu, normal}
use Rattle.least.specs.Least.{above, back_column, back, values, least}
use Rattle.rule.specs.Rounded.{Rounded, Column, rest_made, take_column, set_column}

module _ {Q : Float → Type 0} (made : Rounded Q) where
  -- ---- a right-hand side of k numbers stays one, Q of each

  module _ (k : ℕ) where
    abbrev Right : List Float → Type 0
    Right l = Column Q k l

    -- beside a matrix
    Second : List Float × List Float → Type 0
    Second s = Right s.1

    cholesky_right : (n : ℕ) (b : List Float) (w : Way (List Float)) → Right b → Right (final (chol_end n b w)).1
    unfolding chol_end chol_back chol_forward back_at forward_at
    cholesky_right n b (going l) c =
        down_keeps Right n _ _ (λ i x. set_column x i _ (made.part_of _ _)) (loop_keeps Right 0 n _ b (λ i x. set_column x i _ (made.part_of _ _)) c)
    cholesky_right n b (stopped k l) c = c

    swap_right : (n i r : ℕ) (s : List Float × List Float) → Second s → Second (lu_swap n i r s)
    unfolding lu_swap Second swapped
    swap_right n i r s c =
        let one = set_column s.1 i (at s.1 r) (c.each r) c in
        either Second (eqb r i) s (swap_rows n i r s.0, swapped i r s.1) (λ t. c) (λ t. set_column _ r (at s.1 i) (c.each i) one)

    column_right : (n i : ℕ) (s : List Float × List Float) → Second s → Second (final (lu_column n i s))
    unfolding lu_column lu_pivoted lu_eliminate Second
    column_right n i s c =
        let r = pivot_row n s.0 i in
        either (λ w. Second (final w)) (lt (abs_of (cell n s.0 r i)) 1e-15) (stopped i s) (going (lu_eliminate n i (lu_swap n i r s))) (λ t. c) (λ t. swap_right n i r s c)

    -- forward substitution stores what a sum leaves, back substitution quotients
    lu_right : (n : ℕ) (w : Way (List Float × List Float)) → Second (final w) → Right (final (right_side (lu_end n w)))
    unfolding lu_end lu_back lu_forward Second
    lu_right n (going s) c =
        down_keeps Right n _ _ (λ i x. set_column x i _ (made.part_of _ _))
        (loop_keeps Right 0 n _ s.1 (λ i x p. set_column x i _ (rest_made made (at x i) 0 i _ (p.each i)) p) c)
    lu_right n (stopped k s) c = c

    normal_right : (n : ℕ) (a b : List Float) → Right b → Right (final (normal n a b))
    unfolding normal or_lu cholesky lu lu_factor Second
    normal_right n a b c = go (cholesky n a b) (cholesky_right n b (chol_factor n a) c)
      where
        go : (w : Way (List Float × List Float)) → Right (final w).1 → Right (final (or_lu n a b w))
        go (going s) p = p
        go (stopped k s) p = lu_right n (lu_factor n a b) (way_keeps (lu_column n) Second (column_right n) 0 n (a, b) c)

    qt_right : (m n : ℕ) (a bs b : List Float) → Right b → Right (qt m n a bs b)
    unfolding qt qt_column
    qt_right m n a bs b c = loop_keeps Right 0 n _ b (λ j l p. loop_keeps Right j m _ l (λ i x. set_column x i _ (made.rest_of _ _)) p) c

    back_column_right : (n : ℕ) (a : List Float) (j : ℕ) (y : List Float) → Right y → Right (final (back_column n a j y))
    unfolding back_column above
    back_column_right n a j y p =
        either (λ w. Right (final w)) (lt (abs_of (cell n a j j)) 1e-15) (stopped j y) (going _) (λ t. p)
        (λ t. loop_keeps Right 0 j _ _ (λ i z. set_column z i _ (made.rest_of _ _)) (set_column y j _ (made.part_of _ _) p))

    back_right : (n : ℕ) (a x : List Float) → Right x → Right (final (back n a x))
    unfolding back
    back_right n a x c = way_down_keeps (back_column n a) Right (back_column_right n a) n x c

  -- ---- the values of a solve of n columns: n numbers, Q of each

  normal_values : (n : ℕ) (w : Way (List Float)) (vs : List Float) → Column Q n (final w) → solution w ≡ solved vs → Column Q n vs
  normal_values n (going x) vs c q = let z : x ≡ vs = cc in rw (← z) c
  normal_values n (stopped k x) vs c q = absurd cc

  least_values : (m n : ℕ) (w : Way (List Float)) (vs : List Float) → n ≤ m → Column Q m (final w) → values n w ≡ solved vs → Column Q n vs
  unfolding values
  least_values m n (going x) vs h c q = let z : take n x ≡ vs = cc in rw (← z) (take_column made n x (omega (arith, c.long)) c)
  least_values m n (stopped k x) vs h c q = absurd cc

  -- of the normal equations
  pub normal_column : (n : ℕ) (a b vs : List Float) → Column Q n b → solution (normal n a b) ≡ solved vs → Column Q n vs
  normal_column n a b vs c q = normal_values n (normal n a b) vs (normal_right n n a b c) q

  -- of least squares
  pub least_column : (m n : ℕ) (a b vs : List Float) → n ≤ m → Column Q m b → least m n a b ≡ solved vs → Column Q n vs
  unfolding least
  least_column m n a b vs h c q =
      let f = after m n a n in
      let x = qt m n f (betas m n a) b in
      least_values m n (back n f x) vs h (back_right m n f x (qt_right m m n f (betas m n a) b c)) q
