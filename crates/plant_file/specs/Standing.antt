-- Tables that stand for what the devices hold.
use Rattle.std.specs.Prelude.{◌≡◌, ◌≤◌, ℕ, Bool, true, false, List, [], length, take, drop, Option, Some, Result, Ok, Err, is_ok}
use Rattle.std.specs.List.{list_all}
use Rattle.lab_base.specs.Lists.{Has}
use Rattle.lab_base.specs.declared.boot.Boot.{Boot}
use Rattle.lab_base.specs.declared.fault.TextFault.{TextFault}
use Rattle.plant.specs.Disks.{ArePossible}
use Rattle.plant.specs.Events.{Event, Wrote, Synced, Cut}
use Rattle.plant.specs.Worlds.{World, PipeRow, world_of}
use Rattle.plant.specs.Worlds as worlds
use Rattle.plant.specs.declared.device.Answer.{Answer}
use Rattle.plant.specs.declared.device.DeviceOp.{DeviceOp}
use Rattle.plant_file.specs.declared.entry.Entry.{Entry}
use Rattle.plant_file.specs.Entries.{after, answer_of}
use Rattle.folder.specs.Folders.{Held, Old}
use Rattle.plant_file.specs.Holding.{world_in}
use Rattle.plant_file.specs.Lines.{tables_of_text}

-- WHAT IS KNOWN OF A WORLD, by another in which all is known: a boot state may be open
pub record IsKnown (all known : World) : Type 0 where
  pub rows : (row : worlds.Row) → known.rows row ≡ all.rows row
  pub os : (name : List ℕ) → (known.node name).os ≡ (all.node name).os
  pub pipes : (name : List ℕ) (k : ℕ) → (known.node name).pipes k ≡ (all.node name).pipes k
  pub boot : (name : List ℕ) (state : Boot) → (known.node name).boot ≡ Some state → (all.node name).boot ≡ Some state

-- the tables of a text that is of tables
abbrev pub entries_or : Result (List Entry) TextFault → List Entry
entries_or (Ok entries) = entries
entries_or (Err fault) = []

-- THE TEXT STANDS FOR THE WORLD: it is of tables, and they say all that is known
pub record Stands (w : World) (text : List ℕ) : Type 0 where
  pub reads : is_ok (tables_of_text text) ≡ true
  pub known : IsKnown (world_in (entries_or (tables_of_text text))) w

-- and so it does in a folder
abbrev pub Fits : Held → Type 0
Fits h = Stands (world_of h.past.trace) h.text

-- a step that writes no side, syncs none and cuts none
abbrev pub is_beside : Event → Bool
is_beside (Wrote side at bytes) = false
is_beside (Synced side) = false
is_beside (Cut side size) = false
is_beside event = true

-- AN OLDER TEXT stood for the world at its moment, and each image that is possible now was possible then: so a loss of power that leaves it
-- leaves what a stop at that moment would have left. No step of the journal comes after it
pub record IsOld (h : Held) (old : Old) : Type 0 where
  pub within : old.at ≤ length h.past.trace
  pub stands : Stands (world_of (take old.at h.past.trace)) old.text
  pub possible : (a b : List ℕ) → ArePossible h.past.trace a b → ArePossible (take old.at h.past.trace) a b
  pub beside : list_all is_beside (drop old.at h.past.trace) ≡ true

abbrev pub OldsFit : Held → Type 0
OldsFit h = (old : Old) → Has h.older old → IsOld h old

-- tables that are those of the text
abbrev pub AreOf : List Entry → Held → Type 0
AreOf entries h = tables_of_text h.text ≡ Ok entries

-- tables and an answer after a command, by those of the text
pub record IsObeyed (op : DeviceOp) (now : List Entry) (answer : Answer) (h : Held) : Type 0 where
  pub entries : List Entry
  pub before : tables_of_text h.text ≡ Ok entries
  pub after_is : now ≡ after op entries
  pub answer_is : answer ≡ answer_of op entries

-- WHAT A FOLDER KEEPS: its text stands for its world, and so did its older ones
pub record Keeps (h : Held) : Type 0 where
  pub fits : Fits h
  pub olds : OldsFit h

-- WHAT LEAVES THE TABLES AS THEY ARE: the text is the same, and so is what the devices hold
pub record KeepsTables (old new : Option Held) : Type 0 where
  pub before : (now : Held) → new ≡ Some now → (h : Held) × (old ≡ Some h) × (now.text ≡ h.text) × (Keeps h → Keeps now)
