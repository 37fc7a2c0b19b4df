-- What can happen to a fit, each a case of `Course`: what holds at its start and is kept by each holds after every round. The laws are those of proofs/Course. Assumes nothing.
use Rattle.std.specs.Prelude.{◌≡◌, ◌≢◌, Bool, true, ◌||◌, List, [], eqb, Float}
use Rattle.std.proofs.Math.Bool.{false}
use Prim.Native.Nat.{ℕ, suc}
use Rattle.refusal.specs.Answers.{solved, refused}
use Rattle.rule.specs.declared.Stop.{Stop}
use Rattle.rule.specs.declared.Stop.TheVariants.{NoData, Empty, Settled}
use Rattle.rule.specs.Rule.{Problem, State, going, done, latest, zeros, support, refit, first}

module _ (P : Problem) where
  -- no rows or no columns
  abbrev pub lacking : Bool
  lacking = eqb P.rows 0 || eqb P.cols 0

  -- I, of the number of rounds and the state after them: a case for each thing that can happen, with what is known then
  pub record Course (I : ℕ → State → Type 0) : Type 0 where
    pub nothing : lacking ≡ true → I 0 (done NoData (zeros P.cols) [])
    pub refused_first : lacking ≡ false → (c : ℕ) → P.whole ≡ refused c → I 0 (first P (refused c))
    pub begins : lacking ≡ false → (vs : List Float) → P.whole ≡ solved vs → I 0 (first P (solved vs))
    pub rests : (r : ℕ) (t : Stop) (cs : List Float) (ws : List ℕ) → I r (done t cs ws) → I (suc r) (done t cs ws)
    pub empties : (r : ℕ) (cs : List Float) (ws : List ℕ) → I r (going cs ws) → I (suc r) (done Empty (zeros P.cols) ws)
    pub settles : (r : ℕ) (cs : List Float) (ws : List ℕ) → I r (going cs ws) → support P cs ≢ 0 → support P cs ≡ latest ws → I (suc r) (done Settled cs ws)
    pub refused_later : (r : ℕ) (cs : List Float) (ws : List ℕ) → I r (going cs ws) → support P cs ≢ 0 → support P cs ≢ latest ws
        → (c : ℕ) → P.solve (support P cs) ≡ refused c → I (suc r) (refit P ws (support P cs) (refused c))
    pub refits : (r : ℕ) (cs : List Float) (ws : List ℕ) → I r (going cs ws) → support P cs ≢ 0 → support P cs ≢ latest ws
        → (vs : List Float) → P.solve (support P cs) ≡ solved vs → I (suc r) (refit P ws (support P cs) (solved vs))
