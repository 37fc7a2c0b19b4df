-- Reading no more than the program's room changes no answer. Assumes nothing.
use Rattle.std.specs.Prelude.{◌≡◌, List, ℕ, take}
use Rattle.rule.specs.Sizes.{limits_hold}
use Rattle.exchange.specs.Limits.{input_room}
use Rattle.exchange.proofs.Cut.{cut_alike_by}
use Rattle.frames.specs.Exchange.{before_rows, lines_asked, answer_of}

-- the bytes beyond the room change no answer
pub cut_alike : (s : List ℕ) → answer_of (take input_room s) ≡ answer_of s
unfolding answer_of
cut_alike = cut_alike_by before_rows lines_asked (λ task. limits_hold)
