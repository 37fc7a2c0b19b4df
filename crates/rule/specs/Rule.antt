-- The fit rule, once: over the count of terms, which terms a look keeps, which the last pass clears, and the solve. Assumes nothing.
use Rattle.std.specs.Prelude.{ℕ, zero, suc, Bool, cond, List, [], ◌∷◌, eqb, length, replicate, Float}
use Rattle.steps.specs.Num.{+zero, at}
use Rattle.steps.specs.Table.{tab}
use Rattle.support.specs.Word.{has, place, word, term_at}
use Rattle.refusal.specs.Answers.{Solution, solved, refused}
use Rattle.rule.specs.declared.Stop.{Stop}
use Rattle.rule.specs.declared.Stop.TheVariants.{NoData, FirstRefused, Empty, RefitRefused, Settled, OutOfRounds}

-- What a fit is over: its sizes, which terms a look keeps at which value, which the last pass clears, the solve of all columns and of a support's, and the squared error
-- that a word's terms leave at coefficients.
-- Today no term is treated unlike another: the term number is there for a later order, which holds terms.
pub record Problem : Type 0 where
  pub rows : ℕ
  pub cols : ℕ
  pub keeps : ℕ → Float → Bool
  pub clears : ℕ → Float → Bool
  pub whole : Solution
  pub solve : ℕ → Solution
  pub error : ℕ → List Float → Float

-- The state between rounds: the coefficients, and the supports of the refits so far, the newest first.
pub data State : Type 0 where
  going : List Float → List ℕ → State
  done : Stop → List Float → List ℕ → State

-- what a fit gives: the coefficients, and the report beside them
pub record Fit : Type 0 where
  pub coeffs : List Float
  pub stop : Stop
  pub refits : ℕ
  pub kept : ℕ
  pub error : Float

-- the last refitted support: none (0) at first, and no support that is refitted is 0
abbrev pub latest : List ℕ → ℕ
latest [] = 0
latest (w ∷ ws) = w

abbrev pub zeros : ℕ → List Float
zeros n = replicate n +zero

-- the support is every term that a look keeps
unfoldable pub support : Problem → List Float → ℕ
support P cs = word (λ j. P.keeps j (at cs j)) P.cols

-- clear all and put each value at its term: the value of a supported term stands at its reduced place
unfoldable pub scatter : ℕ → ℕ → List Float → List Float
scatter n w vs = tab n (λ j. cond (has w j) (at vs (place w j)) +zero)

-- the refit over w, counted even if refused: at theta's term of the refused column, never at its reduced place
unfoldable pub refit : Problem → List ℕ → ℕ → Solution → State
refit P past w (refused c) = done (RefitRefused (record { 0 = term_at w c })) (zeros P.cols) (w ∷ past)
refit P past w (solved vs) = going (scatter P.cols w vs) (w ∷ past)

-- a look that found the support w: empty, or the same as the last refitted one, or a refit
unfoldable pub look : Problem → List Float → List ℕ → ℕ → State
look P cs past w =
    cond (eqb w 0) (done Empty (zeros P.cols) past) (cond (eqb w (latest past)) (done Settled cs past) (refit P past w (P.solve w)))

-- one round: a fit that is done stays as it is
unfoldable pub round : Problem → State → State
round P (done t cs past) = done t cs past
round P (going cs past) = look P cs past (support P cs)

-- the first solve, over all columns: there a column is its own term
unfoldable pub first : Problem → Solution → State
first P (refused c) = done (FirstRefused (record { 0 = c })) (zeros P.cols) []
first P (solved vs) = going vs []

-- no rows or columns: zeros, NoData
unfoldable pub start : Problem → State
start P =
    cond (eqb P.rows 0) (done NoData (zeros P.cols) [])
    (cond (eqb P.cols 0) (done NoData (zeros P.cols) []) (first P P.whole))

-- the state after r rounds
unfoldable pub rounds : Problem → ℕ → State
rounds P zero = start P
rounds P (suc r) = round P (rounds P r)

-- last, set to +0.0 each coefficient that the last pass clears
unfoldable pub pruned : Problem → List Float → List Float
pruned P cs = tab P.cols (λ j. cond (P.clears j (at cs j)) +zero (at cs j))

-- the report, however the fit stopped: the refits counted, the kept word of the final coefficients, and the squared error that its terms leave at them
unfoldable pub reported : Problem → Stop → List Float → List ℕ → Fit
reported P t cs past =
    let final = pruned P cs in
    let kept = support P final in
    record { coeffs = final; stop = t; refits = length past; kept = kept; error = P.error kept final }

-- rounds used up after so many refits, the last over last, and one more look found w: the same is Settled, anything else, an empty one too, OutOfRounds
unfoldable pub last_look : ℕ → ℕ → ℕ → Stop
last_look refits last w = cond (eqb refits 0) OutOfRounds (cond (eqb w last) Settled OutOfRounds)

-- the stop of a fit whose rounds are used up at cs, after the refits past
abbrev pub last_stop : Problem → List Float → List ℕ → Stop
last_stop P cs past = last_look (length past) (latest past) (support P cs)

-- the last look gives the stop, and changes no coefficient
unfoldable pub finish : Problem → State → Fit
finish P (going cs past) = reported P (last_stop P cs past) cs past
finish P (done t cs past) = reported P t cs past

-- the fit within a limit of rounds
unfoldable pub fit : Problem → ℕ → Fit
fit P limit = finish P (rounds P limit)

-- the supports refitted so far, the newest first
abbrev pub past : State → List ℕ
past (going cs ws) = ws
past (done t cs ws) = ws

unfoldable pub refitted : Problem → ℕ → List ℕ
refitted P r = past (rounds P r)

-- the coefficients of a state: once the rounds are over, those before the last pass
abbrev pub coeffs_of : State → List Float
coeffs_of (going cs ws) = cs
coeffs_of (done t cs ws) = cs
