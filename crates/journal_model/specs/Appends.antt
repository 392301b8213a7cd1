-- The steps that an append adds to a trace, and the states of the live side and of its images.
use Rattle.std.specs.Prelude.{◌≡◌, ◌≢◌, ◌⊎◌, ◌<◌, ◌≤◌, ◌+◌, ℕ, List, [], ◌∷◌, ◌++◌, length, slice_index}
use Rattle.lab_base.specs.Lists.{Has}
use Rattle.plant.specs.Disks.{Disk, at_once, disk, disk_after}
use Rattle.plant.specs.Events.{Event, Wrote, Synced}
use Rattle.plant.specs.declared.step.Side.{Side}
use Rattle.plant.specs.declared.step.Side.TheVariants.{A, B}
use Rattle.journal_rec.specs.declared.record.Record.{Record}
use Rattle.journal_rec.specs.Payloads.{number, body, IsRecord}
use Rattle.journal_rec.specs.Packing.{blocks}
use Rattle.journal_model.specs.Journals.{header, Head, Blank, Headed, head, On, live, gate_after, Records, journal_length}

-- a side up to the gate after these records
abbrev pub front : List ℕ → List Record → List ℕ
front epoch rs = header epoch ++ blocks rs

abbrev pub other_side : Side → Side
other_side A = B
other_side B = A

-- the other side is blank, or has a lower epoch
abbrev pub IsOlder : Head → List ℕ → Type 0
IsOlder Blank epoch = Unit {0}
IsOlder (Headed m) epoch = number m < number epoch
IsOlder head epoch = ⊥

-- what is known of the sides but for the live one's state: its epoch, its records, and the other side, which has nothing unsynced
pub record Known (trace : List Event) (side : Side) (epoch : List ℕ) (rs : List Record) : Type 0 where
  pub eight : length epoch ≡ 8
  pub written : (r : Record) → Has rs r → IsRecord r
  pub other : List ℕ
  pub there : disk (other_side side) trace ≡ at_once other
  pub older : IsOlder (head other) epoch

-- the live side rests: nothing is unsynced, and a closed gate stands after the records
pub record Rests (d : Disk) (epoch : List ℕ) (rs : List Record) : Type 0 where
  pub gate : ℕ
  pub behind : List ℕ
  pub shut : gate ≢ 165
  pub is : d ≡ at_once (front epoch rs ++ gate ∷ behind)

-- WHAT A CALL OF append ADDS, up to the step in which it failed or stopped: nothing; any bytes behind the gate; its body, synced; then any byte as the gate; then the open gate, synced
pub data Run : Type 0 where
  Nothing : Run
  Body : (bytes : List ℕ) → Run
  Settled : Run
  Gate : (byte : ℕ) → Run
  All : Run

abbrev pub body_at : Side → ℕ → List ℕ → Event
body_at side g bytes = Wrote side (g + 1) bytes

abbrev pub gate_at : Side → ℕ → ℕ → Event
gate_at side g byte = Wrote side g (byte ∷ [])

abbrev pub added : Side → ℕ → Record → Run → List Event
added side g r Nothing = []
added side g r (Body bytes) = body_at side g bytes ∷ []
added side g r Settled = body_at side g (body r) ∷ Synced side ∷ []
added side g r (Gate byte) = body_at side g (body r) ∷ Synced side ∷ gate_at side g byte ∷ []
added side g r All = body_at side g (body r) ∷ Synced side ∷ gate_at side g 165 ∷ Synced side ∷ []

-- the live side reads as these records, in this image
pub record IsOn (side : Side) (a b : List ℕ) (rs : List Record) : Type 0 where
  pub live_is : live (head a) (head b) ≡ On side
  pub reads : Records a b rs
  pub size : journal_length a b rs ≡ gate_after rs + 1

-- what the images after such a run are
abbrev pub AfterRun : Side → List ℕ → List ℕ → List Record → Record → Run → Type 0
AfterRun side a b rs r Nothing = IsOn side a b rs
AfterRun side a b rs r (Body bytes) = IsOn side a b rs
AfterRun side a b rs r Settled = IsOn side a b rs
AfterRun side a b rs r (Gate byte) = IsOn side a b rs ⊎ IsOn side a b (rs ++ r ∷ [])
AfterRun side a b rs r All = IsOn side a b (rs ++ r ∷ [])

-- as a side reads is a possible image of it: true of every trace whose writes begin within the side
pub record IsReadable (d : Disk) : Type 0 where
  pub kept : (k : ℕ) → k < length d.durable → k < length d.reads → ((r : ℕ × ℕ) → Has d.written r → (k < r.0) ⊎ (r.1 ≤ k)) → slice_index d.reads k ≡ slice_index d.durable k

-- a step that a plant may add: a write begins within the side as it reads
abbrev pub IsWithin : Side → Disk → Event → Type 0
IsWithin A d (Wrote A at bytes) = at ≤ length d.reads
IsWithin B d (Wrote B at bytes) = at ≤ length d.reads
IsWithin side d event = Unit {0}

abbrev pub AreWithin : Side → Disk → List Event → Type 0
AreWithin side d [] = Unit {0}
AreWithin side d (event ∷ events) = IsWithin side d event × AreWithin side (disk_after side d event) events

-- A LAWFUL TRACE, on one side
abbrev pub IsLawful : Side → List Event → Type 0
IsLawful side trace = AreWithin side (at_once []) trace

-- both sides are durable as they read, and what they stand for is known
pub record Opened (trace : List Event) (side : Side) (rs : List Record) : Type 0 where
  pub epoch : List ℕ
  pub known : Known trace side epoch rs
  pub rests : Rests (disk side trace) epoch rs
