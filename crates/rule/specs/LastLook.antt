-- What a last look that settles found, and what a settled fit has after one round more. The laws are those of proofs/LastLook. Assumes nothing.
use Rattle.std.specs.Prelude.{◌≡◌, ◌≢◌, ℕ, suc, Float}
use mathlib.Core.List.{List, []}
use Rattle.rule.specs.declared.Stop.TheVariants.{Settled}
use Rattle.rule.specs.Rule.{Problem, done, rounds, last_look, fit}

-- a last look that settles: something was refitted, and the look found just that
pub record LastSettles (refits last w : ℕ) : Type 0 where
  pub some : refits ≢ 0
  pub same : w ≡ last
  pub stop : last_look refits last w ≡ Settled

module _ (P : Problem) where
  -- the state after one round more has settled, and the report is the same
  pub record SettlesNext (r : ℕ) : Type 0 where
    pub coeffs : List Float
    pub supports : List ℕ
    pub settles : rounds P (suc r) ≡ done Settled coeffs supports
    pub same : fit P (suc r) ≡ fit P r
