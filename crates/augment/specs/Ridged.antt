-- QR's matrix, and the rows below theta's as they are written one by one. Assumes nothing.
use Rattle.std.specs.Prelude.{◌≡◌, List, cond, ℕ, ◌+◌, ◌<◌, eqb, length, Float}
use Rattle.std.specs.Int.Count.{ones}
use Rattle.steps.specs.Num.{+zero, Entry, cell}
use Rattle.steps.specs.Table.{table}
use Rattle.float64.specs.Root.{root_of}
use Rattle.places.specs.Columns.{columns}
use Rattle.rule.specs.Fits.{augmented}

-- the matrix of a refit: the columns of the support w of the matrix e, and as many rows below with the root of lambda on their diagonal
abbrev pub qr_matrix : ℕ → ℕ → ℕ → Float → Entry → List Float
qr_matrix rows n w lambda e = table (rows + ones w) (ones w) (augmented rows (root_of lambda) (columns n w e))

-- the first i of the rows after `rows` have the root on their diagonal; the rows of the matrix before them are as they were
pub record Ridged (rows k : ℕ) (root : Float) (i : ℕ) (s s' : List Float) : Type 0 where
  pub long : length s' ≡ length s
  pub new : (r c : ℕ) → r < i → c < k → cell k s' (rows + r) c ≡ cond (eqb r c) root +zero
  pub old : (r c : ℕ) → r < rows → c < k → cell k s' r c ≡ cell k s r c
