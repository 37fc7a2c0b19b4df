-- Where the entries of the list of exchanges stand. Assumes nothing.
use Rattle.std.specs.Prelude.{ℕ, ◌+◌, ◌≤◌, Option, None, Some}
use Rattle.cases.specs.declared.replay.Entry.{Entry}
use Rattle.cases.specs.declared.replay.Entry.TheVariants.{Name, Exchange}
use Rattle.cases.specs.declared.replay.Tally.{Tally}

-- the bytes of an entry's two lengths and their newline
abbrev pub head : ℕ
head = 9

-- what follows them within a list of n bytes: a name, or an input and its answer
abbrev pub EndsIn : Option Entry → ℕ → ℕ → Type 0
EndsIn (Some (Name end)) from n = (from ≤ end) × (end ≤ n)
EndsIn (Some (Exchange mid end)) from n = (from ≤ mid) × (mid ≤ end) × (end ≤ n)
EndsIn None from n = Unit

-- a group ends within the list, and each of its exchanges takes some of it
pub record Tallied (t : Tally) (from n : ℕ) : Type 0 where
  pub within : t.end ≤ n
  pub few : t.all + from ≤ t.end
  pub fewer : t.alike ≤ t.all
