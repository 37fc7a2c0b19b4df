-- Back substitution and least squares, from what their steps gave. Assumes nothing.
use Rattle.std.specs.Prelude.{◌≡◌, List, ℕ, ◌-◌, ◌<◌, true, false, set, Ok, Err, Float}
use Rattle.std.proofs.Common.{sym, ap, ◌∙◌}
use Rattle.std.specs.Float.Ieee.{lt}
use Rattle.steps.specs.Num.{over, 1e-15, at, cell}
use Rattle.steps.specs.Loops.{Way, going, stopped, way_down, way_down_goes, way_down_stops}
use Rattle.float64.specs.Root.{abs_of}
use Rattle.refusal.specs.Answers.{Solved, told}
use Rattle.transpose.specs.Transpose.{qt}
use Rattle.householder.specs.Qr.{after, betas}
use Rattle.least.specs.Least.{above, back_column, back, values, least}

-- a turn of back substitution, by what it told
module _ (n j : ℕ) (a x y : List Float) (r : Solved) (h : 0 < j) (turn : told r y ≡ back_column n a (j - 1) x) where
  pub back_goes : r ≡ Ok tt → way_down (back_column n a) j x ≡ way_down (back_column n a) (j - 1) y
  back_goes e = way_down_goes (back_column n a) j x y h (sym (rw e at turn))

  pub back_stops : {c : ℕ} → r ≡ Err c → told r y ≡ way_down (back_column n a) j x
  back_stops {c} e = rw e (sym (way_down_stops (back_column n a) j c x y h (sym (rw e at turn))))

-- a column whose diagonal is r: stopped, or divided and the entries above updated
module _ (n j : ℕ) (a x : List Float) (r : Float) (read : r ≡ cell n a j j) where
  pub column_stops : lt (abs_of r) 1e-15 ≡ true → stopped j x ≡ back_column n a j x
  unfolding back_column
  column_stops small = rw (rw read at small)

  pub column_goes : lt (abs_of r) 1e-15 ≡ false → going (above n a j (set x j (over (at x j) r))) ≡ back_column n a j x
  unfolding back_column
  column_goes large = rw (rw read at large, read)

-- QR, Q-transpose, back substitution
pub least_is : (m n : ℕ) (a f b b' c : List Float) (x : Way (List Float)) → f ≡ after m n a n → c ≡ betas m n a → b' ≡ qt m n f c b → x ≡ back n f b' → values n x ≡ least m n a b
unfolding least
least_is m n a f b b' c x is_f is_c is_b is_x = ap (values n) (is_x ∙ rw (is_b, is_c, is_f))
