-- How a solve over a support ends: refused, or its values put at their terms. Assumes nothing.
use Rattle.std.specs.Prelude.{Err, Ok}
use mathlib.Core.Path.{◌≡◌, ap, ◌∙◌}
use mathlib.Core.List.{List, ◌++◌}
use Prim.Native.Nat.{ℕ, ◌^◌, ◌<◌}
use lib.Count.{ones}
use lib.ListN.{length, take}
use lib.Ieee.{Float}
use Rattle.refusal.specs.Answers.{Solution, solved, refused, told, Solved}
use Rattle.least.specs.Least.{values}
use Rattle.support.specs.Word.{term_at}
use Rattle.rule.specs.Rule.{scatter}
use Rattle.refit.specs.Parts.{gave, placed}
use Rattle.refit.proofs.Head.{scatter_head}

module _ (n w : ℕ) (s : Solution) (r : Solved) where
  -- refused: what stands in the coefficients is not looked at
  pub refused_out : (c t : ℕ) (y : List Float) → r ≡ Err c → t ≡ term_at w c → gave r y ≡ s → refused t ≡ placed n w s
  refused_out c t y e h q = rw (← q, e, h)

  -- done: the values at the head of the coefficients go to their terms
  pub done_out : {m : ℕ} {x : List Float} (vs rest : List Float) → r ≡ Ok tt → gave r vs ≡ s → m ≡ n → w < 2 ^ n → length vs ≡ ones w → x ≡ scatter m w (vs ++ rest) → solved x ≡ placed n w s
  done_out vs rest e q i h l p = rw (p, i, scatter_head n w vs rest h l, ← q, e)

-- the values of least squares, read at the head of what it left
pub read_out : (r : Solved) (k : ℕ) (x b : List Float) {s : Solution} → b ≡ take k x → values k (told r x) ≡ s → gave r b ≡ s
unfolding values
read_out (Ok done) k x b e q = ap solved e ∙ q
read_out (Err c) k x b e q = q
