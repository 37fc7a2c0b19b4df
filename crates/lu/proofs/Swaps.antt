-- The library's swap of two numbers is the rule's. Assumes nothing.
use Rattle.std.specs.Prelude.{◌≡◌, List, ℕ, ◌<◌, length, swap, Float}
use Rattle.std.proofs.Common.{sym}
use Rattle.std.proofs.lemmas.List.Edits.{swap_is}
use Rattle.std.specs.Float.{nan}
use Rattle.steps.specs.Space.{swapped}

pub swap_swapped : (x y : ℕ) (l : List Float) → x < length l → y < length l → swap l x y ≡ swapped x y l
unfolding swapped
swap_swapped x y l h k = sym (swap_is l x y nan h k)
