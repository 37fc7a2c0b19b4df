-- `entry_at`: the eight bytes are digits, so the four of either length are. Assumes nothing.
use Rattle.std.proofs.Common.{◌≡◌, ◌+◌, ◌≤◌, sym, ◌∙◌, arith, List, ℕ, length, true}
use Rattle.hexdigits.specs.Hex.{all_hex, Digits}
use Rattle.hexdigits.specs.Parts.{part_digits}
use Rattle.cases.proofs.replay.entry_at.Goals as goal

half : (s : List ℕ) (a : ℕ) {b : ℕ} → a + 8 ≤ length s → all_hex s a 8 ≡ true → a ≤ b → b + 4 ≤ a + 8 → Digits s b 4
half s a h e l k = part_digits _ 4 (record { within = h; good = e }) l k

pub number_at-first-requires : goal.number_at-first-requires
number_at-first-requires c = (half _ c.args.at (omega arith) (sym c.all_hex.ensures ∙ c.if-not-all_hex.false) (omega arith) (omega arith), omega arith)

pub number_at-second-requires : goal.number_at-second-requires
number_at-second-requires c = (half _ c.args.at (omega arith) (sym c.all_hex.ensures ∙ c.if-not-all_hex.false) (omega arith) (omega arith), omega arith)
