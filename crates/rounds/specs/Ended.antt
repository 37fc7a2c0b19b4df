-- How a fit comes to an end. Assumes nothing.
use Rattle.std.specs.Prelude.{◌≡◌, List, ℕ, length, Float, Option}
use Rattle.std.proofs.Common.{sym, ap, ◌∙◌}
use Rattle.steps.specs.Space.{cleared, cleared_all}
use Rattle.rule.specs.declared.Stop.{Stop}
use Rattle.rule.specs.declared.Look.{Look}
use Rattle.rule.specs.Dropped.{dropped}
use Rattle.rule.specs.Rule.{Problem, done, zeros, rounds, finish, fit, coeffs_of}
use Rattle.rounds.specs.Ran.{CameTo}

-- all coefficients cleared
pub zeroed : (n : ℕ) (cs : List Float) {x : List Float} → length cs ≡ n → x ≡ cleared n cs → x ≡ zeros n
zeroed n cs l e = e ∙ cleared_all n cs l

-- a state that is done is what the fit reports
pub came_to : (P : Problem) (m j : ℕ) {t : Stop} {k : ℕ} {d : Option Look} {cs : List Float} (ws : List ℕ)
    → rounds P m ≡ done t cs ws → k ≡ length ws → d ≡ dropped P j m → CameTo P m j t k d cs
unfolding fit finish
came_to P m j ws e i q = record { refitted = ws; ends = ap (finish P) e; counts = i; leaves = sym (ap coeffs_of e); drops = q }
