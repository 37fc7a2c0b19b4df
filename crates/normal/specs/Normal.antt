-- The normal equations: Cholesky on a copy; on its refusal LU on a fresh copy and the untouched b. Assumes nothing.
use Rattle.std.specs.Prelude.{ℕ, List, Float}
use Rattle.steps.specs.Loops.{Way, going, stopped}
use Rattle.cholesky.specs.Cholesky.{cholesky}
use Rattle.lu.specs.Lu.{lu}

-- the right-hand side alone
abbrev pub right_side : Way (List Float × List Float) → Way (List Float)
right_side (going s) = going s.1
right_side (stopped c s) = stopped c s.1

-- what Cholesky came to, or LU where it refused
unfoldable pub or_lu : ℕ → List Float → List Float → Way (List Float × List Float) → Way (List Float)
or_lu n a b (going s) = going s.1
or_lu n a b (stopped c s) = right_side (lu n a b)

-- b after the solve
unfoldable pub normal : ℕ → List Float → List Float → Way (List Float)
normal n a b = or_lu n a b (cholesky n a b)
