-- Reading no more than the program's room changes no answer. Assumes nothing.
use Rattle.std.specs.Prelude.{◌≡◌, List, ℕ, take}
use Rattle.exchange.specs.Limits.{input_room}
use Rattle.exchange.proofs.Cut.{cut_alike_by}
use Rattle.causes.specs.Exchange.{why_before, cause_lines_asked, causes_of}
use Rattle.causes.specs.Cases.{before_limits}

-- the bytes beyond the room change no answer
pub why_cut_alike : (s : List ℕ) → causes_of (take input_room s) ≡ causes_of s
unfolding causes_of
why_cut_alike = cut_alike_by why_before cause_lines_asked before_limits
