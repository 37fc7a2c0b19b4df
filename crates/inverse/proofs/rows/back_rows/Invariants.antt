-- `back_rows` meets its contract. The loop's invariant: what is left from row i on gives the whole answer, in each column.
use Rattle.std.proofs.Common.{◌≡◌, ℕ, ◌<◌, set}
use Rattle.steps.specs.Loops.{down_from}
use Rattle.cholesky.specs.Cholesky.{back_at, chol_back}
use Rattle.inverse.specs.ByColumns.{down_column}
use Rattle.inverse.proofs.rows.back_rows.Given as goal

abbrev pub invariant-loop-i : goal.invariant-loop-i
invariant-loop-i l =
    let n = l.l.n in
    let factor = l.l.numbers.now in
    (j : ℕ) → j < n → down_from l.i (λ r b. set b r (back_at n factor r b)) (down_column n l.x j) ≡ chol_back n factor (down_column n l.initial.x j)
