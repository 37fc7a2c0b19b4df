-- The loop's invariant: after this many rounds, each of which refitted, the rule goes on with these coefficients and this last support,
-- the term that is watched was dropped where the rule says, and what the fit keeps in its workspace is there: it outlives each solve.
use Rattle.rule.specs.Givens.{problem_given}
use Rattle.refit.specs.Parts.{Kept}
use Rattle.rounds.proofs.Turns.{Going}
use Rattle.rounds.proofs.inner.rounds.Given as goal

abbrev pub invariant-loop-refits : goal.invariant-loop-refits
invariant-loop-refits l =
    Going (problem_given l.given) l.refits l.term_idx.0 l.drop l.coeffs l.last.0 × Kept l.given l.ws
