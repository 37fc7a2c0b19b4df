-- The sums have taken the terms passed.
use lib.ListN.{length}
use Rattle.places.specs.Theta.{by_columns}
use Rattle.leftover.specs.Error.{RowSums}
use Rattle.leftover.specs.Fits.{kept_entries, kept_coeffs}
use Rattle.leftover.proofs.inner.columns.row_sums.Given as goal

abbrev pub invariant-loop-p : goal.invariant-loop-p
invariant-loop-p l = RowSums l.p (kept_entries by_columns l.fit) (kept_coeffs l.fit) l.i (length l.fn.sums) l.sums
