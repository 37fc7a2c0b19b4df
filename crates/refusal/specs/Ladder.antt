-- A ladder of refusals, and what is known once it is passed. Assumes nothing.
use Rattle.std.specs.Prelude.{◌≡◌, refl, Bool, true, false, ℕ, Ok, Err}
use Rattle.std.proofs.Common.{arith, lt-ltb, le-ltb, eq-eqb, ne_eqb}
use Rattle.refusal.specs.Answers.{Answer, refuse_if, and_then}
use Rattle.refusal.specs.declared.Refusal.{Refusal}

-- how far a ladder goes, by what its tests found: `search ladder`, with the ladder unfolded, answers each return of a function of tests
pub ruleset ladder = (lt-ltb, le-ltb, eq-eqb, ne_eqb)

-- where nothing is refused, the first test does not hold, and the rest refuses nothing
pub not_refused : (t : Bool) (w : Refusal) (next : Answer) → refuse_if t w next ≡ Ok tt → (t ≡ false) × (next ≡ Ok tt)
not_refused true w next e = let z : ◌≡◌ {A = ℕ} 0 1 = cc in absurd (omega arith)
not_refused false w next e = (refl, e)

-- and so of two ladders, one after the other
pub both_done : (a next : Answer) → and_then a next ≡ Ok tt → (a ≡ Ok tt) × (next ≡ Ok tt)
both_done (Ok done) next e = (refl, e)
both_done (Err w) next e = let z : ◌≡◌ {A = ℕ} 0 1 = cc in absurd (omega arith)
