-- The steps that a journal's move onto the other side adds to a trace.
use Rattle.std.specs.Prelude.{◌≡◌, ◌≤◌, ◌<◌, ◌+◌, ◌==◌, ℕ, Bool, true, false, List, [], ◌∷◌, ◌++◌, length, Option, Result, Ok, Err}
use Rattle.std.specs.List.{flat_map}
use Rattle.plant.specs.Events.{Event, Wrote, Synced, Cut}
use Rattle.plant.specs.Told.{Told, with_steps}
use Rattle.plant.specs.declared.device.Fault.{Fault}
use Rattle.plant.specs.declared.device.Fault.TheVariants.{Stopped}
use Rattle.plant.specs.declared.step.Side.{Side}
use Rattle.journal_rec.specs.Payloads.{le}
use Rattle.journal_model.specs.Journals.{magic}
use Rattle.journal_disk.specs.Reaching.{IsLast}

-- what stands behind the header gate of a side of that epoch: the rest of the header, and the records with their gates
abbrev pub side_text : ℕ → List ℕ → List ℕ
side_text epoch packed = magic ++ le 8 epoch ++ packed

-- a side has no closed gate at its front: it has no byte, or its first one is an open gate
abbrev pub lacks_closed_gate : List ℕ → Bool
lacks_closed_gate [] = true
lacks_closed_gate (gate ∷ bytes) = gate == 165

-- each has 65,536 bytes but the last, which has some and at most so many
abbrev pub AreFull : List (List ℕ) → Type 0
AreFull [] = Unit {0}
AreFull (last ∷ []) = (0 < length last) × (length last ≤ 65536)
AreFull (piece ∷ next ∷ pieces) = (length piece ≡ 65536) × AreFull (next ∷ pieces)

-- the text in pieces of 65,536 bytes and a last one, which are written one after the other
pub record ArePieces (text : List ℕ) (pieces : List (List ℕ)) : Type 0 where
  pub whole : flat_map (λ piece. piece) pieces ≡ text
  pub full : AreFull pieces

abbrev pub text_writes : Side → ℕ → List (List ℕ) → List Event
text_writes side at [] = []
text_writes side at (piece ∷ pieces) = Wrote side at piece ∷ text_writes side (at + length piece) pieces

-- How far a journal came on the other side: not yet; any byte as the gate of a side without a closed one; its closed gate, synced; cut after
-- it; that synced; pieces behind the gate; the whole text, synced; any byte as the gate; the open gate, synced.
pub data Come : Type 0 where
  Untouched : Come
  Closing : (byte : ℕ) → Come
  Closed : Come
  Cutting : Come
  Emptied : Come
  Filling : (pieces : List (List ℕ)) → Come
  Filled : (pieces : List (List ℕ)) → Come
  Raising : (pieces : List (List ℕ)) (byte : ℕ) → Come
  InUse : (pieces : List (List ℕ)) → Come

-- the gate of a side that has no closed one is closed
abbrev pub shutting : Side → Bool → List Event
shutting side true = Wrote side 0 (0 ∷ []) ∷ Synced side ∷ []
shutting side false = []

-- the side is cut behind its gate
abbrev pub emptying : Side → Bool → List Event
emptying side to_close = shutting side to_close ++ Cut side 1 ∷ Synced side ∷ []

-- the text is written behind the closed gate
abbrev pub filling : Side → Bool → List (List ℕ) → List Event
filling side to_close pieces = emptying side to_close ++ text_writes side 1 pieces

abbrev pub come_steps : Side → Bool → Come → List Event
come_steps side to_close Untouched = []
come_steps side to_close (Closing byte) = Wrote side 0 (byte ∷ []) ∷ []
come_steps side to_close Closed = shutting side to_close
come_steps side to_close Cutting = shutting side to_close ++ Cut side 1 ∷ []
come_steps side to_close Emptied = emptying side to_close
come_steps side to_close (Filling pieces) = filling side to_close pieces
come_steps side to_close (Filled pieces) = filling side to_close pieces ++ Synced side ∷ []
come_steps side to_close (Raising pieces byte) = filling side to_close pieces ++ Synced side ∷ Wrote side 0 (byte ∷ []) ∷ []
come_steps side to_close (InUse pieces) = filling side to_close pieces ++ Synced side ∷ Wrote side 0 (165 ∷ []) ∷ Synced side ∷ []

-- a gate is closed only where none is, and what is synced is the text
abbrev pub MayCome : Bool → List ℕ → Come → Type 0
MayCome to_close text (Closing byte) = to_close ≡ true
MayCome to_close text (Filled pieces) = ArePieces text pieces
MayCome to_close text (Raising pieces byte) = ArePieces text pieces
MayCome to_close text (InUse pieces) = ArePieces text pieces
MayCome to_close text far = Unit {0}

-- a beginning of a text
abbrev pub Begins : List ℕ → List ℕ → Type 0
Begins text bytes = (rest : List ℕ) × (bytes ++ rest ≡ text)

-- The pieces are a beginning of the text, but for the last one where its write failed: that may have left any bytes.
pub record AreBegun (text : List ℕ) (fault : Fault) (pieces : List (List ℕ)) : Type 0 where
  pub done : List (List ℕ)
  pub last : List (List ℕ)
  pub are : pieces ≡ done ++ last
  pub begins : Begins text (flat_map (λ piece. piece) done)
  pub few : length last ≤ 1
  pub stopped : fault ≡ Stopped → last ≡ []

-- what a call that was not acknowledged leaves of a move: other bytes than its own only where it failed
abbrev pub IsMeant : List ℕ → Fault → Come → Type 0
IsMeant text fault (Closing byte) = fault ≡ Stopped → byte ≡ 0
IsMeant text fault (Filling pieces) = AreBegun text fault pieces
IsMeant text fault (Raising pieces byte) = fault ≡ Stopped → byte ≡ 165
IsMeant text fault far = Unit {0}

-- so far after Ok
abbrev pub IsInUse : Come → Type 0
IsInUse (InUse pieces) = Unit {0}
IsInUse far = ⊥

-- so far it came with that text since then, until a call failed or the plant stopped
pub record Leaves (side : Side) (to_close : Bool) (text : List ℕ) (base new : Option Told) (fault : Fault) : Type 0 where
  pub far : Come
  pub may : MayCome to_close text far
  pub more : List Event
  pub trace : new ≡ with_steps base (come_steps side to_close far ++ more)
  pub last : IsLast side fault more
  pub meant : IsMeant text fault far

abbrev pub BreaksOff : Side → Bool → List ℕ → Option Told → Option Told → Result (Unit {0}) Fault → Type 0
BreaksOff side to_close text base new (Ok done) = Unit {0}
BreaksOff side to_close text base new (Err fault) = Leaves side to_close text base new fault

-- bytes were written from there on, in pieces: all of them after Ok, and else a beginning
abbrev pub WriteEnds : Side → List ℕ → Result (Unit {0}) Fault → List (List ℕ) → List Event → Type 0
WriteEnds side bytes (Ok done) pieces more = ArePieces bytes pieces × (more ≡ [])
WriteEnds side bytes (Err fault) pieces more = IsLast side fault more × AreBegun bytes fault pieces

pub record WritesText (side : Side) (at : ℕ) (bytes : List ℕ) (old new : Option Told) (result : Result (Unit {0}) Fault) : Type 0 where
  pub pieces : List (List ℕ)
  pub more : List Event
  pub trace : new ≡ with_steps old (text_writes side at pieces ++ more)
  pub ends : WriteEnds side bytes result pieces more
