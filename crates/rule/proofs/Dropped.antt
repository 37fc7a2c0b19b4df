-- Once a fit is done, nothing more is dropped.
use Rattle.std.specs.Prelude.{None, Some, ◌≡◌, refl, List, ℕ, ◌≤◌, Float, Option}
use Rattle.std.proofs.Common.{ap, ◌∙◌}
use Rattle.std.proofs.Math.Decide.{le_ind}
use Rattle.rule.specs.Rule.{Problem, done, rounds}
use Rattle.rule.specs.declared.Stop.{Stop}
use Rattle.rule.specs.declared.Look.{Look}
use Rattle.rule.specs.Dropped.{drops, or_else, dropped}
use Rattle.rule.proofs.Stable.{stays}

or_never : (d : Option Look) → or_else d None ≡ d
unfolding or_else
or_never None = refl
or_never (Some d) = refl

pub dropped_stays : (P : Problem) (j : ℕ) {t : Stop} {cs : List Float} {ws : List ℕ} (r m : ℕ) → rounds P r ≡ done t cs ws → r ≤ m → dropped P j m ≡ dropped P j r
unfolding dropped drops
dropped_stays P j r m e h =
    le_ind (λ k. dropped P j k ≡ dropped P j r) refl (λ k l i. ap (λ s. or_else (dropped P j k) (drops P j s)) (stays P r k e l) ∙ or_never (dropped P j k) ∙ i) m h
