-- The rows passed are mirrored, the others as they were.
use Rattle.steps.specs.Rows.{Rows}
use Rattle.sums.specs.Pages.{upper}
use Rattle.sums.proofs.inner.mirror.mirror.Given as goal

abbrev pub invariant-loop-p : goal.invariant-loop-p
invariant-loop-p l = Rows l.n_cols l.n_cols (upper l.n_cols l.initial.out) l.initial.out l.p l.out
