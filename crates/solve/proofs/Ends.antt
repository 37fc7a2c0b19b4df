-- How a solver's work ends, over plain values: what it answers, and what clearing forgets. Assumes nothing.
use Rattle.std.specs.Prelude.{◌≡◌, List, ◌++◌, ℕ, ◌+◌, ◌-◌, ◌≤◌, length, take, drop, Ok, Err, MatchResult, IsErrAnd, Float}
use Rattle.std.proofs.Common.{ap, ◌∙◌, drop-drop, arith}
use Rattle.std.proofs.Math.Seq.{drop-append-add}
use Rattle.std.proofs.lemmas.Result.{err_from_is_err_and}
use Rattle.steps.specs.Space.{cleared, cleared_same}
use Rattle.refusal.specs.Answers.{Answer, Solved, told, answered, Solution}
use Rattle.refusal.specs.declared.Refusal.{Refusal}
use Rattle.refusal.specs.declared.Refusal.TheVariants.{SmallPivot}
use Rattle.least.specs.Least.{values}
use Rattle.solve.specs.Calls.{LeastLeft}

-- a refusal that is mapped to w of its column
pub mapped : (w : ℕ → Refusal) (s : Solved) (r : Answer) {P : ℕ → Refusal → Type 0} → ((c : ℕ) (y : Refusal) → P c y → y ≡ w c) →
    MatchResult s (λ x. r ≡ Ok x) (λ e. IsErrAnd r (P e)) → r ≡ answered w s
mapped w (Ok done) r k h = h
mapped w (Err c) r k h = let p = err_from_is_err_and r h in p.1 ∙ ap Err (k c p.0 p.2)

module _ (n : ℕ) {x : Solution} {o : List Float} where
  -- least squares that is refused leaves the output as it was
  pub least_stops : (s : Solved) (y : List Float) {r : Answer} {e : Refusal} → r ≡ answered SmallPivot s → r ≡ Err e → values n (told s y) ≡ x → LeastLeft x o o r
  unfolding values
  least_stops (Ok done) y i e t = let z : ◌≡◌ {A = ℕ} 0 1 = cc in absurd (omega arith)
  least_stops (Err c) y i e t = record { answer = rw (← t) i; out = rw (← t) }

  pub least_solves : (s : Solved) (y : List Float) {o' : List Float} {r : Answer} → r ≡ answered SmallPivot s → r ≡ Ok tt → values n (told s y) ≡ x → o' ≡ take n y → LeastLeft x o o' (Ok tt)
  unfolding values
  least_solves (Ok done) y i e t out = record { answer = rw (← t); out = rw (← t) out }
  least_solves (Err c) y i e t out = let z : ◌≡◌ {A = ℕ} 0 1 = cc in absurd (omega arith)

-- clearing a workspace forgets what was left in the head that is cleared
pub cleared_front : (k need : ℕ) (t w : List Float) → k ≤ need → length t ≡ k → cleared need (t ++ drop k w) ≡ cleared need w
cleared_front k need t w h len =
    cleared_same need _ _
    (ap (λ (i : ℕ). drop i (t ++ drop k w)) (let e : need ≡ length t + (need - k) = omega (arith, len) in e)
    ∙ drop-append-add t _ _ ∙ drop-drop (need - k) k w
    ∙ ap (λ (i : ℕ). drop i w) (let e : k + (need - k) ≡ need = omega arith in e))
