-- The side beside the live one: a move that was cut off, or a side that has lost its header gate.
use Rattle.std.specs.Prelude.{◌≡◌, ◌≤◌, ℕ, Bool, true, false, ◌&&◌, ◌||◌, ◌==◌, ◌+◌, nat_lt, nat_le, List, [], ◌∷◌, ◌++◌, length, take, drop}
use Rattle.std.specs.List.{list_all}
use Rattle.journal_rec.specs.declared.record.Record.{Record}
use Rattle.journal_rec.specs.declared.record.Record.TheVariants.{Commit, Abort}
use Rattle.journal_rec.specs.Packing.{blocks}
use Rattle.journal_model.specs.Journals.{head}
use Rattle.journal_disk.specs.declared.heads.Head.{Head}
use Rattle.journal_disk.specs.declared.heads.Head.TheVariants.{Blank, Headed}
use Rattle.journal_disk.specs.Heads.{seen}
use Rattle.records_model.specs.Labs.{LabState, LabOf}
use Rattle.lab_state.specs.Packing.{packed_of}
use Rattle.lab_state.specs.Texts.{the_texts}
use Rattle.lab_sides.specs.Heads.{shut_head}
use Rattle.lab_look.specs.declared.beside.Beside.{Beside}
use Rattle.lab_look.specs.declared.beside.Beside.TheVariants.{Behind, Begun, Lost}

-- of two headers, the other one's epoch is later; it is the next one
abbrev pub is_later : Head → Head → Bool
is_later (Headed m) (Headed n) = nat_lt m n
is_later live other = false

abbrev pub is_next : Head → Head → Bool
is_next (Headed m) (Headed n) = n == m + 1
is_next live other = false

abbrev pub ahead_of : Head → List ℕ → Head → Bool
ahead_of live other Blank = is_later live (shut_head other)
ahead_of live other own = false

-- a header of a later epoch than the live side's stands behind a closed gate
abbrev pub is_ahead : List ℕ → List ℕ → Bool
is_ahead live other = ahead_of (seen (head live)) other (seen (head other))

-- the bytes are a beginning of the text, but for zeros, which a stop of the machine leaves where a piece wasn't written yet
abbrev pub is_beginning : List ℕ → List ℕ → Bool
is_beginning [] text = true
is_beginning (x ∷ bytes) [] = false
is_beginning (x ∷ bytes) (y ∷ text) = ((x == y) || (x == 0)) && is_beginning bytes text

-- behind the gate stands the next epoch, and a beginning of these packed records
abbrev pub is_begun : List ℕ → List ℕ → List ℕ → Bool
is_begun live other packed = is_next (seen (head live)) (shut_head other) && (nat_le 17 (length other) && is_beginning (drop 17 other) packed)

-- what a move of a lab writes after the header: its packed records, and a closed gate
abbrev pub packed_bytes : LabState → List ℕ
packed_bytes s = blocks (packed_of the_texts s) ++ 0 ∷ []

-- a record that ends a move of an experiment
abbrev pub is_end : Record → Bool
is_end (Commit exp) = true
is_end (Abort exp) = true
is_end r = false

-- behind the gate stands a beginning of what a move of the lab of these records writes
abbrev pub IsBegunBy : List ℕ → List ℕ → List Record → Type 0
IsBegunBy live other rs = (s : LabState) × LabOf the_texts rs s × (is_begun live other (packed_bytes s) ≡ true)

-- A MOVE THAT WAS CUT OFF: of the lab of the live side's records, or of that of its first n, after which there are only ends of moves. For the next
-- opening settles what moves before it moves the journal, and may be cut off between both
abbrev pub IsBegun : List ℕ → List ℕ → List Record → Type 0
IsBegun live other rs = (n : ℕ) × (n ≤ length rs) × (list_all is_end (drop n rs) ≡ true) × IsBegunBy live other (take n rs)

-- WHAT STANDS BESIDE THE LIVE SIDE, which has these records: nothing of a later epoch; a move that was cut off; or else a side that has lost its
-- header gate
abbrev pub IsBeside : List ℕ → List ℕ → List Record → Beside → Type 0
IsBeside live other rs Behind = is_ahead live other ≡ false
IsBeside live other rs Begun = (is_ahead live other ≡ true) × IsBegun live other rs
IsBeside live other rs Lost = (is_ahead live other ≡ true) × (IsBegun live other rs → ⊥)
