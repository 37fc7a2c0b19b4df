-- What was read of an input. Assumes nothing.
use Rattle.std.specs.Prelude.{ℕ, zero, suc, ◌+◌, ◌<◌, ◌≡◌, List, length, take, Option, Some, None, Result, Ok, Err, MatchResult, ⊤}
use Rattle.std.proofs.Common.{subst}
use Rattle.std.specs.Io.{ReadsAtMost}
use Rattle.std.specs.Io.KnownBytes.{Consumes, IsAtEnd}
use Rattle.std.specs.Counts.{IsPrefixLen}

-- after n bytes a read answered: an error is that it failed, 0 is the input's end, else so many more came
abbrev pub after_read : {E : Type 0} → ℕ → Result ℕ E → Result (Option ℕ) E
after_read n (Err e) = Err e
after_read n (Ok zero) = Ok None
after_read n (Ok (suc k)) = Ok (Some (n + suc k))

-- the bytes that came stand at the head of the room
abbrev pub Came : {E : Type 0} → Result ℕ E → List ℕ → Type 0
Came r room = ReadsAtMost r room

-- they are the next of those that the reader had left, and all of these where the room is not full
abbrev pub Gave : {E : Type 0} → Option (List ℕ) → Option (List ℕ) → Result ℕ E → List ℕ → Type 0
Gave old new r room = MatchResult r (λ n. Consumes old new (take n room) × (n < length room → IsAtEnd new)) (λ _. ⊤)

pub came_whole : {E : Type 0} (r : Result ℕ E) (n : ℕ) (xs : List ℕ) → r ≡ Ok n → Came r xs → IsPrefixLen n xs
came_whole r n xs e h = subst (λ r. Came r xs) e h
