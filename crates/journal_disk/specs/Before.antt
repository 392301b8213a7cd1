-- Images that read as images that were possible before.
use Rattle.std.specs.Prelude.{◌≡◌, ◌↔◌, ℕ, Bool, true, false, ◌&&◌, List, ◌++◌, Result}
use Rattle.std.specs.Global.{Vec}
use Rattle.std.specs.List.{list_any}
use Rattle.plant.specs.Disks.{ArePossible, disk, same_side}
use Rattle.plant.specs.Events.{Event, Synced}
use Rattle.plant.specs.declared.step.Side.{Side}
use Rattle.plant.specs.declared.step.Side.TheVariants.{A, B}
use Rattle.journal_rec.specs.declared.record.Found.{Found}
use Rattle.journal_rec.specs.declared.record.Record.{Record}
use Rattle.journal_model.specs.Journals.{Records, Bad}
use Rattle.journal_disk.specs.Opening.{Opens}
use Rattle.journal_disk.specs.declared.fault.OpenFault.{OpenFault}
use Rattle.journal_disk.specs.declared.journal.Journal.{Journal}

-- both pairs of sides are the same records, or bad at the same place
pub record ReadAlike (a b x y : List ℕ) : Type 0 where
  pub records : (rs : List Record) → Records a b rs ↔ Records x y rs
  pub bad : (side : Side) (at : ℕ) → Bad a b side at ↔ Bad x y side at

-- AT EACH MOMENT each image has the records, or the bad place, of an image that was possible before these steps
abbrev pub AreAsBefore : List Event → List Event → Type 0
AreAsBefore trace steps = (front back : List Event) → steps ≡ front ++ back → (a b : List ℕ) → ArePossible (trace ++ front) a b
    → (x y : List ℕ) × ArePossible trace x y × ReadAlike a b x y

-- both sides were synced in these steps
abbrev pub is_sync_of : Side → Event → Bool
is_sync_of side (Synced s) = same_side s side
is_sync_of side event = false

abbrev pub are_synced : List Event → Bool
are_synced steps = list_any (is_sync_of A) steps && list_any (is_sync_of B) steps

-- once both sides are synced, each image has the records, or the bad place, of what the sides read as before these steps
abbrev pub AreSettled : List Event → List Event → Type 0
AreSettled trace steps = are_synced steps ≡ true → (a b : List ℕ) → ArePossible (trace ++ steps) a b → ReadAlike a b (disk A trace).reads (disk B trace).reads

-- AN OPENING: what it added, and what each image has meanwhile
pub record IsOpening (trace steps : List Event) (result : Result (Journal × Vec Found) OpenFault) : Type 0 where
  pub opens : Opens trace steps result
  pub before : AreAsBefore trace steps
  pub settled : AreSettled trace steps
