-- The heads of sides that were shut or cut.
use Rattle.std.specs.Prelude.{ℕ, ◌==◌, ◌&&◌, Bool, nat_lt, List, ◌∷◌, length, drop, slice_index_or}
use Rattle.journal_model.specs.Journals.{head}
use Rattle.journal_disk.specs.declared.heads.Head.{Head}
use Rattle.journal_disk.specs.Heads.{seen}

-- what a head would say if its gate were open
abbrev pub shut_head : List ℕ → Head
shut_head bytes = seen (head (165 ∷ drop 1 bytes))

-- the header gate is open, and the side ends within its header
abbrev pub is_cut : List ℕ → Bool
is_cut bytes = nat_lt (length bytes) 18 && slice_index_or bytes 0 0 == 165
