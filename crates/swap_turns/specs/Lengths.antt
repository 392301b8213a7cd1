-- By how much steps make the journal longer.
use Rattle.std.specs.Prelude.{◌≡◌, ◌+◌, ℕ, List, ◌∷◌, length, sum_by}
use Rattle.plant.specs.Events.{Event, Wrote}
use Rattle.journal_disk.specs.Standing.{length_of}
use Rattle.journal_disk.specs.declared.journal.Journal.{Journal}

-- what a record has behind its gate is written at once, and the journal is longer by it; a write of one byte is a gate, which is there before
abbrev pub appended_by : Event → ℕ
appended_by (Wrote side at (first ∷ second ∷ bytes)) = length bytes + 2
appended_by event = 0

-- THE BYTES OF THE RECORDS that these steps append
abbrev pub appended : List Event → ℕ
appended steps = sum_by appended_by steps

-- the journal is longer by these
abbrev pub IsLonger : Journal → Journal → List Event → Type 0
IsLonger j k steps = length_of k ≡ length_of j + appended steps
