-- What each cause says of the fit, in document 02's words. Assumes nothing.
use Rattle.std.specs.Prelude.{◌≡◌, true, false, List, [], ◌∷◌, ◌++◌, ℕ, suc, ◌<◌, length, Float}
use Rattle.std.specs.Float.{nan}
use Rattle.steps.specs.Num.{at}
use Rattle.support.specs.Word.{has}
use Rattle.support.specs.declared.Term.{Term}
use Rattle.rule.specs.Rule.{Problem, going, support, rounds, refitted, fit}
use Rattle.rule.specs.declared.Stop.TheVariants as S
use Rattle.why.specs.declared.Cause.{Cause}
use Rattle.why.specs.declared.Cause.TheVariants.{NoData, FirstRefused, Kept, Dropped, Cleared, Zeroed, LeftNan}

-- the term j was in each of these refits
abbrev pub InEach : ℕ → List ℕ → Type 0
InEach j [] = Unit {0}
InEach j (w ∷ ws) = (has w j ≡ true) × InEach j ws

-- and in none of these
abbrev pub InNone : ℕ → List ℕ → Type 0
InNone j [] = Unit {0}
InNone j (w ∷ ws) = (has w j ≡ false) × InNone j ws

-- a fit within a limit of rounds, and its term j
module _ (P : Problem) (limit j : ℕ) where
  -- dropped at the look before refit number r, with the coefficient c
  pub record DroppedAt (r : ℕ) (c : Float) : Type 0 where
    -- the refits before that look and after it, the newest first, and the coefficients that it saw
    pub before : List ℕ
    pub after : List ℕ
    pub coeffs : List Float
    pub refits : refitted P limit ≡ after ++ before
    -- the term was in every earlier refit and in none after
    pub in_each_before : InEach j before
    pub in_none_after : InNone j after
    -- the look is that of a round, before refit number r: one past the last refit if the look found nothing
    pub in_limit : length before < limit
    pub looks : rounds P (length before) ≡ going coeffs before
    pub number : r ≡ suc (length before)
    -- it saw this coefficient, and did not find the term
    pub saw : c ≡ at coeffs j
    pub unfound : has (support P coeffs) j ≡ false

  -- cleared when refit r, the last one, was refused: the term was in it, and in every one before
  pub record ClearedAt (r : ℕ) : Type 0 where
    pub term : Term
    pub stop : (fit P limit).stop ≡ S.RefitRefused term
    pub in_each : InEach j (refitted P limit)
    pub number : r ≡ length (refitted P limit)

  -- in every refit when the rounds were used up, with the value c before the last pass
  pub record LastAt (c : Float) : Type 0 where
    pub coeffs : List Float
    pub stop : (fit P limit).stop ≡ S.OutOfRounds
    pub over : rounds P limit ≡ going coeffs (refitted P limit)
    pub in_each : InEach j (refitted P limit)
    pub value : c ≡ at coeffs j

  -- the first solve was refused
  pub record FirstAt : Type 0 where
    pub term : Term
    pub stop : (fit P limit).stop ≡ S.FirstRefused term

  -- what a cause says
  abbrev pub Truly : Cause → Type 0
  Truly NoData = (fit P limit).stop ≡ S.NoData
  Truly FirstRefused = FirstAt
  Truly Kept = has (fit P limit).kept j ≡ true
  Truly (Dropped r c) = DroppedAt r c
  Truly (Cleared r) = ClearedAt r
  Truly (Zeroed c) = LastAt c × (P.clears j c ≡ true)
  Truly LeftNan = LastAt nan
