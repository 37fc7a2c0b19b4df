-- What a solver answers inside, as the end of its loop. Assumes nothing.
use Rattle.std.specs.Prelude.{◌≡◌, refl, ℕ, ◌+◌, ◌≤◌, ◌<◌, Ok, Err}
use Rattle.std.proofs.Common.{sym}
use Rattle.steps.specs.Loops.{Way, going, final, way, way_goes, way_stops}
use Rattle.refusal.specs.Answers.{Solved, told, ended, answered}
use Rattle.refusal.specs.declared.Refusal.{Refusal}

-- what a solve told ends as its answer does, and leaves what it left
pub ended_told : {A : Type 0} (w : ℕ → Refusal) (s : Solved) (x : A) → ended w (told s x) ≡ answered w s
ended_told w (Ok done) x = refl
ended_told w (Err c) x = refl

pub final_told : {A : Type 0} (s : Solved) (x : A) → final (told s x) ≡ x
final_told (Ok done) x = refl
final_told (Err c) x = refl

-- a loop goes on after a turn that told it is done, and ends at one that told it refused
module _ {A : Type 0} (f : ℕ → A → Way A) (lo i : ℕ) (s t u : A) (r : Solved) (up : lo ≤ i) (went : way f lo i s ≡ going t) (turn : told r u ≡ f i t) where
  pub told_goes : r ≡ Ok tt → way f lo (i + 1) s ≡ going u
  told_goes e = way_goes f lo i s t u up went (sym (rw e at turn))

  pub told_stops : (hi : ℕ) {c : ℕ} → i < hi → r ≡ Err c → told r u ≡ way f lo hi s
  told_stops hi {c} h e = rw e (sym (way_stops f lo i hi c s t u up h went (sym (rw e at turn))))
