-- `lu_column` meets its contract: stopped at a small pivot, else swapped and eliminated.
-- a column whose pivot is small stops there; another one is swapped and eliminated
use Rattle.std.specs.Prelude.{◌≡◌, true, false, List, ℕ, Float}
use Rattle.std.proofs.Common.{sym}
use Rattle.std.specs.Float.Ieee.{lt}
use Rattle.steps.specs.Num.{1e-15}
use Rattle.steps.specs.Loops.{going, stopped}
use Rattle.lu.specs.Lu.{Pivots, lu_swap, eliminated, lu_eliminate, lu_pivoted, lu_column}
use Rattle.lu.proofs.inner.lu_column.Goals as goal

column_stops : (n k row : ℕ) (size : Float) (a b : List Float) → Pivots n a k row size → lt size 1e-15 ≡ true → lu_column n k (a, b) ≡ stopped k (a, b)
unfolding lu_column lu_pivoted
column_stops n k row size a b p small = rw (← p.is, ← p.greatest, small)

column_goes : (n k row : ℕ) (size : Float) (a b a' b' a'' : List Float) → Pivots n a k row size → lt size 1e-15 ≡ false →
    (a', b') ≡ lu_swap n k row (a, b) → a'' ≡ eliminated n k a' → lu_column n k (a, b) ≡ going (a'', b')
unfolding lu_column lu_pivoted lu_eliminate
column_goes n k row size a b a' b' a'' p large s e = rw (← p.is, ← p.greatest, large, ← s, e)

pub returns-then-pivot : goal.returns-then-pivot
returns-then-pivot c = sym (column_stops _ _ _ _ _ _ c.find_pivot-pivot.ensures c.if-pivot.true)

pub returns : goal.returns
returns c =
    sym (column_goes _ _ _ _ _ _ _ _ _ c.find_pivot-pivot.ensures c.if-pivot.false c.swap_both.ensures c.eliminate.ensures)
