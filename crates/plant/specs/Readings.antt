-- Readings of devices, and their answers.
use Rattle.std.specs.Prelude.{◌≡◌, ◌⊎◌, ◌↔◌, ◌<◌, ◌≤◌, ℕ, true, List, [], ◌∷◌, length, Option, Some, None, is_some, option_map, IfSome, Result, Ok, Err, OnErr}
use Rattle.lab_base.specs.declared.boot.Boot.{Boot}
use Rattle.lab_base.specs.declared.ids.VlanId.{VlanId}
use Rattle.lab_base.specs.Counts.{Rose}
use Rattle.lab_base.specs.Lists.{Has, Apart}
use Rattle.plant.specs.declared.device.NodeRow as declared
use Rattle.plant.specs.declared.moment.Faults.{Faults}
use Rattle.plant.specs.Events.{Event, Unread}
use Rattle.plant.specs.Worlds.{World, NodeRow}
use Rattle.plant.specs.Worlds as worlds
use Rattle.plant.specs.declared.pipe_row.PipeRow.{PipeRow}
use Rattle.plant.specs.declared.pipe_row.ReadFailed.{ReadFailed}

-- THE STEPS OF A READING: one where it failed, and else none
abbrev pub unread : {T : Type 0} → List ℕ → Result T ReadFailed → List Event
unread device (Ok value) = []
unread device (Err fault) = Unread device ∷ []

-- after a reading: the disk's count stands, the devices' does not fall, and it rose where the reading failed
pub record ReadCause {T : Type 0} (before now : Faults) (result : Result T ReadFailed) : Type 0 where
  pub disk : now.disk ≡ before.disk
  pub later : before.devices ≤ now.devices
  pub failed : OnErr result (Rose before.devices now.devices)

-- THE LIST OF ALL THAT ARE SO, in order, each once
pub record IsListOf {X : Type 0} (before : X → X → Type 0) (so : X → Type 0) (xs : List X) : Type 0 where
  pub rising : Apart before xs
  pub exact : (x : X) → Has xs x ↔ so x

-- THE NTH OF ALL THAT ARE SO, in order, from 0: so many come before it. There is none where there are no more than so many
abbrev pub IsNth : {X : Type 0} → (X → X → Type 0) → (X → Type 0) → ℕ → Option X → Type 0
IsNth before so nth None = (all : List _) × IsListOf before so all × (length all ≤ nth)
IsNth before so nth (Some x) = so x × ((earlier : List _) × IsListOf before (λ y. so y × before y x) earlier × (length earlier ≡ nth))

-- an entry of a switch, a port in a VLAN, comes before another: by port, and then by VLAN id
abbrev pub IsBefore : ℕ × ℕ → ℕ × ℕ → Type 0
IsBefore a b = (a.0 < b.0) ⊎ ((a.0 ≡ b.0) × (a.1 < b.1))

-- the entry stands; the node has a pipe of that number
abbrev pub IsEntry : World → List ℕ → ℕ × ℕ → Type 0
IsEntry w switch e = w.rows (record { switch = switch; port = e.0; vlan = e.1 }) ≡ true

abbrev pub HasPipe : NodeRow → ℕ → Type 0
HasPipe row k = is_some (row.pipes k) ≡ true

-- an entry by its numbers, and a pipe without its number
abbrev pub entry_of : ℕ × VlanId → ℕ × ℕ
entry_of e = (e.0, e.1.0)

abbrev pub pipe_of : PipeRow → worlds.PipeRow
pipe_of p = record { from = p.from; to = p.to; there = p.there; back = p.back }

-- WHAT A READING TELLS of a switch, of a node, and of a pipe; a boot state that is open may be told as any
abbrev pub TellsRow : World → List ℕ → ℕ → Option (ℕ × VlanId) → Type 0
TellsRow w switch nth found = IsNth IsBefore (IsEntry w switch) nth (option_map entry_of found)

pub record TellsNode (row : NodeRow) (told : declared.NodeRow) : Type 0 where
  pub os : told.os ≡ row.os
  pub state : (state : Boot) → row.boot ≡ Some state → told.state ≡ state
  pub pipes : (all : List ℕ) × IsListOf ◌<◌ (HasPipe row) all × (length all ≡ told.pipes)

abbrev pub TellsPipe : NodeRow → ℕ → Option PipeRow → Type 0
TellsPipe row nth found = IsNth ◌<◌ (HasPipe row) nth (option_map (λ p. p.pipe) found) × IfSome found (λ p. row.pipes p.pipe ≡ Some (pipe_of p))

-- ports, VLAN ids and numbers of pipes fit their types, so that a reading can tell them
abbrev pub RowsFit : World → List ℕ → Type 0
RowsFit w switch = (e : ℕ × ℕ) → IsEntry w switch e → (e.0 < 65536) × (e.1 < 65536)

abbrev pub PipesFit : NodeRow → Type 0
PipesFit row = (k : ℕ) → HasPipe row k → k < 65536
