-- A problem with other solves and errors. That two which agree have the same fits is shown in proofs/SameFit. Assumes nothing.
use Rattle.std.specs.Prelude.{Float}
use mathlib.Core.List.{List, []}
use Prim.Native.Nat.{ℕ}
use Rattle.refusal.specs.Answers.{Solution}
use Rattle.rule.specs.Rule.{Problem}

-- a problem with other solves and errors
abbrev pub resolved : Problem → Solution → (ℕ → Solution) → (ℕ → List Float → Float) → Problem
resolved P a f g = record { rows = P.rows; cols = P.cols; keeps = P.keeps; clears = P.clears; whole = a; solve = f; error = g }
