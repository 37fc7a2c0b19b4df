-- Demand 3 over the problem: what it says. The laws are those of proofs/Stable, and of proofs/Shrinking for a threshold above zero. Assumes nothing.
use Rattle.std.specs.Prelude.{◌≡◌, ◌≢◌, List, [], ◌∷◌, T, Float}
use Prim.Native.Nat.{ℕ, ◌+◌, ◌≤◌}
use Rattle.std.proofs.Math.ListN.{length}
use Rattle.steps.specs.Num.{+zero}
use Rattle.support.specs.Word.{Strict}
use Rattle.rule.specs.declared.Stop.TheVariants.{OutOfRounds}
use Rattle.rule.specs.Rule.{Problem, fit, refitted}

-- a support within the one that was refitted before it, if any
abbrev pub Below : ℕ → List ℕ → Type 0
Below w [] = Unit {0}
Below w (v ∷ ws) = Strict w v

-- each support is a strict subset of the one refitted before it (the list has the newest first)
abbrev pub Falling : List ℕ → Type 0
Falling [] = Unit {0}
Falling (w ∷ ws) = Below w ws × Falling ws

-- at any threshold: a fit that stops for any reason but running out of rounds is the same at every larger limit, coefficients, stop and refit count
pub record Steady (P : Problem) : Type 0 where
  pub steady : (r m : ℕ) → r ≤ m → (fit P r).stop ≢ OutOfRounds → fit P m ≡ fit P r

-- for a threshold above zero
pub record Bounded (P : Problem) : Type 0 where
  -- the refit count is that of the refits of the rule
  pub counted : (r : ℕ) → (fit P r).refits ≡ length (refitted P r)
  -- each refit after the first uses a strict subset of the columns of the refit before
  pub falling : (r : ℕ) → Falling (refitted P r)
  -- refits never exceed the column count or the round limit
  pub few_cols : (r : ℕ) → (fit P r).refits ≤ P.cols
  pub few_rounds : (r : ℕ) → (fit P r).refits ≤ r
  -- a limit of columns plus one, or more, always finishes without running out
  pub finishes : (r : ℕ) → P.cols + 1 ≤ r → (fit P r).stop ≢ OutOfRounds

-- the one fact that the bounds rest on: a term kept at +0.0 is kept at any value
unfoldable pub ZeroKept : Problem → Type 0
ZeroKept P = (j : ℕ) (c : Float) → T (P.keeps j +zero) → T (P.keeps j c)
