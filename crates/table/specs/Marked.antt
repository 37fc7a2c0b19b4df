-- Document 01's marked cases, its table row by row, each fit with its squared error. All by computing; the F cases are of `strlsq`. Assumes nothing.
use Rattle.std.specs.Prelude.{◌≡◌, refl, [], ◌∷◌}
use Rattle.steps.specs.Num.{lit, +zero, -zero, one, -one, two}
use Rattle.steps.specs.Loops.{going}
use Rattle.float64.specs.Root.{root_of}
use Rattle.householder.specs.Qr.{after, betas}
use Rattle.lu.specs.Lu.{lu}
use Rattle.rule.specs.Tasks.{setup_of}
use Rattle.rule.specs.declared.Solver.TheVariants.{Normal}
use Rattle.rule.specs.declared.Stop.TheVariants.{FirstRefused, Empty, Settled, OutOfRounds}
use Rattle.table.specs.Solvers.{three, four, five}
use Rattle.table.specs.Fits.{fits, half, sixteenth, fit_case, gives, theta1, target1}

pub record Marked : Type 0 where
  -- root of 4: 2
  pub R1 : root_of four ≡ two
  -- root of 2
  pub R2 : root_of two ≡ lit 0x3ff6a09e667f3bcd
  -- root of -0.0: -0.0
  pub R3 : root_of -zero ≡ -zero
  -- root of 2^-1074
  pub R4 : root_of (lit 0x0000000000000001) ≡ lit 0x1e60000000000000
  -- root of the largest finite number
  pub R5 : root_of (lit 0x7fefffffffffffff) ≡ lit 0x5fefffffffffffff
  -- [3, 0], Settled, 1 refit, word 1, error 1/16
  pub F1 : fit_case Normal theta1 target1 2 2 (setup_of half +zero 10) ≡ gives (three ∷ +zero ∷ []) Settled 1 1 sixteenth
  -- F1, max_iter 0: OutOfRounds, 0, word 1
  pub F2 : fit_case Normal theta1 target1 2 2 (setup_of half +zero 0) ≡ gives (three ∷ +zero ∷ []) OutOfRounds 0 1 sixteenth
  -- F1, max_iter 1: Settled (as amended), 1, word 1
  pub F3 : fit_case Normal theta1 target1 2 2 (setup_of half +zero 1) ≡ gives (three ∷ +zero ∷ []) Settled 1 1 sixteenth
  -- F1, threshold 4: zeros, Empty, 0, word 0, error 9 1/16
  pub F4 : fit_case Normal theta1 target1 2 2 (setup_of four +zero 10) ≡ gives (+zero ∷ +zero ∷ []) Empty 0 0 (lit 0x4022200000000000)
  -- 1×1: theta 0, target 1, lambda 0: zero, FirstRefused (at term 0), 0, word 0
  pub F5 : fit_case Normal (+zero ∷ []) (one ∷ []) 1 1 (setup_of half +zero 1) ≡ gives (+zero ∷ []) (FirstRefused (record { 0 = 0 })) 0 0 one
  -- 1×1: theta 1, target 0.5, at the threshold: 0.5, Settled, 1
  pub F6 : fit_case Normal (one ∷ []) (half ∷ []) 1 1 (setup_of half +zero 2) ≡ gives (half ∷ []) Settled 1 1 +zero
  -- 1×1: theta 0, target 1, lambda -1, threshold 0: -0.0, OutOfRounds, word 1
  pub F7 : fit_case Normal (+zero ∷ []) (one ∷ []) 1 1 (setup_of +zero -one 0) ≡ gives (-zero ∷ []) OutOfRounds 0 1 one
  -- LU of rows (1,2), (-1,3), b (1,4): matrix (1,2), (-1,5), x (-1,1)
  pub L1 : lu 2 (one ∷ two ∷ -one ∷ three ∷ []) (one ∷ four ∷ []) ≡ going ((one ∷ two ∷ -one ∷ five ∷ []), (-one ∷ one ∷ []))
  -- `qr` of the column (-0.0, 1): data (-1, 1)
  pub Q1 : after 2 1 (-zero ∷ one ∷ []) 1 ≡ -one ∷ one ∷ []
  -- and beta 1
  pub Q1_beta : betas 2 1 (-zero ∷ one ∷ []) ≡ one ∷ []

pub marked : Marked
unfolding fits
marked = record { R1 = refl; R2 = refl; R3 = refl; R4 = refl; R5 = refl; F1 = refl; F2 = refl; F3 = refl; F4 = refl; F5 = refl; F6 = refl; F7 = refl; L1 = refl; Q1 = refl; Q1_beta = refl }
