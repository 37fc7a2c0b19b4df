-- Least squares refuses, if at all, at one of its columns. Assumes nothing.
use Rattle.std.specs.Prelude.{ℕ, List, Float}
use Rattle.std.specs.Float.Ieee.{lt}
use Rattle.steps.specs.Num.{1e-15, cell}
use Rattle.steps.specs.Loops.{Way, going, stopped, StopsBelow, way_down_below}
use Rattle.steps.specs.Cond.{either}
use Rattle.float64.specs.Root.{abs_of}
use Rattle.refusal.specs.Answers.{Within}
use Rattle.transpose.specs.Transpose.{qt}
use Rattle.householder.specs.Qr.{after, betas}
use Rattle.least.specs.Least.{back_column, back, values, least}

back_refuses : (n : ℕ) (a x : List Float) → StopsBelow n (back n a x)
unfolding back back_column
back_refuses n a x = way_down_below (back_column n a) n (λ j y h. either (StopsBelow n) (lt (abs_of (cell n a j j)) 1e-15) _ _ (λ t. h) (λ t. tt)) x

pub least_refuses : (m n : ℕ) (a b : List Float) → Within n (least m n a b)
unfolding least values
least_refuses m n a b =
    let f = after m n a n in
    let x = qt m n f (betas m n a) b in
    go (back n f x) (back_refuses n f x)
  where
    go : (w : Way (List Float)) → StopsBelow n w → Within n (values n w)
    go (going x) p = tt
    go (stopped c x) p = p
