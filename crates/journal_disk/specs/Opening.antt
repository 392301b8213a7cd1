-- The steps that an opening adds to a trace.
use Rattle.std.specs.Prelude.{◌≡◌, ℕ, Bool, true, false, nat_lt, List, [], ◌∷◌, ◌++◌, length, Option, Result, Ok, Err}
use Rattle.std.specs.Global.{Vec}
use Rattle.plant.specs.Disks.{disk}
use Rattle.plant.specs.Events.{Event, Wrote, Synced, Missed}
use Rattle.plant.specs.Told.{Told, with_steps}
use Rattle.plant.specs.declared.device.Fault.{Fault}
use Rattle.plant.specs.declared.step.Side.{Side}
use Rattle.plant.specs.declared.step.Side.TheVariants.{A, B}
use Rattle.journal_rec.specs.declared.record.Found.{Found}
use Rattle.journal_model.specs.Journals.{head, Live, New, live}
use Rattle.journal_model.specs.Making.{made_header}
use Rattle.journal_disk.specs.declared.fault.OpenFault.{OpenFault}
use Rattle.journal_disk.specs.declared.fault.OpenFault.TheVariants as faults
use Rattle.journal_disk.specs.declared.journal.Journal.{Journal}
use Rattle.journal_disk.specs.Reaching.{Reaches}

-- both sides are synced
abbrev pub both_synced : List Event
both_synced = Synced A ∷ Synced B ∷ []

-- what makes a new journal on side A; a side without a header gets a closed gate first
abbrev pub cleared : Bool → List Event
cleared true = Wrote A 0 (0 ∷ []) ∷ Synced A ∷ []
cleared false = []

abbrev pub headed : List Event
headed = Wrote A 1 made_header ∷ Synced A ∷ Wrote A 0 (165 ∷ []) ∷ Synced A ∷ []

abbrev pub making : Bool → List Event
making is_short = cleared is_short ++ headed

-- WHAT A WHOLE OPENING ADDS: both syncs, and where both sides are blank a new journal
abbrev pub new_journal : Live → Bool → List Event
new_journal New is_short = making is_short
new_journal live is_short = []

abbrev pub opening : List ℕ → List ℕ → List Event
opening a b = both_synced ++ new_journal (live (head a) (head b)) (nat_lt (length a) 18)

-- How far a new journal came on side A: not yet; any byte as the gate of a side without a header; its closed gate, synced; any bytes
-- behind the closed gate; the header, synced; any byte as the gate; the open gate, synced.
pub data Made : Type 0 where
  Untouched : Made
  Closing : (byte : ℕ) → Made
  Closed : Made
  Heading : (bytes : List ℕ) → Made
  WithHeader : Made
  Raising : (byte : ℕ) → Made
  InUse : Made

abbrev pub made_steps : Bool → Made → List Event
made_steps is_short Untouched = []
made_steps is_short (Closing byte) = Wrote A 0 (byte ∷ []) ∷ []
made_steps is_short Closed = cleared is_short
made_steps is_short (Heading bytes) = cleared is_short ++ Wrote A 1 bytes ∷ []
made_steps is_short WithHeader = cleared is_short ++ Wrote A 1 made_header ∷ Synced A ∷ []
made_steps is_short (Raising byte) = cleared is_short ++ Wrote A 1 made_header ∷ Synced A ∷ Wrote A 0 (byte ∷ []) ∷ []
made_steps is_short InUse = making is_short

-- a gate is closed only where the side has no header
abbrev pub IsMade : Bool → Made → Type 0
IsMade is_short (Closing byte) = is_short ≡ true
IsMade is_short made = Unit {0}

-- HOW FAR AN OPENING CAME: nothing; side A synced; both; and then so much of a new journal
pub data Far : Type 0 where
  AtStart : Far
  OneSynced : Far
  BothSynced : Far
  Making : (is_short : Bool) (made : Made) → Far

abbrev pub far_steps : Far → List Event
far_steps AtStart = []
far_steps OneSynced = Synced A ∷ []
far_steps BothSynced = both_synced
far_steps (Making is_short made) = both_synced ++ made_steps is_short made

-- a new journal is made only where both sides are blank
abbrev pub MayMake : List ℕ → List ℕ → Far → Type 0
MayMake a b (Making is_short made) = (live (head a) (head b) ≡ New) × (is_short ≡ nat_lt (length a) 18) × IsMade is_short made
MayMake a b far = Unit {0}

-- the syncs: both are there after Ok, and else a call missed on one of the sides
abbrev pub IsSync : Far → Type 0
IsSync (Making is_short made) = ⊥
IsSync far = Unit {0}

abbrev pub Syncs : Option Told → Option Told → Result (Unit {0}) Fault → Type 0
Syncs old new result = (side : Side) × Reaches far_steps IsSync BothSynced side old new result

-- a call that reads adds a step only where it failed
abbrev pub MayMiss : {T : Type 0} → Side → Option Told → Option Told → Result T OpenFault → Type 0
MayMiss side old new (Err faults.Plant) = new ≡ with_steps old (Missed side ∷ [])
MayMiss side old new result = new ≡ old

-- the making of a journal on side A, up to that part after Ok
abbrev pub Makes : Bool → Made → Option Told → Option Told → Result (Unit {0}) Fault → Type 0
Makes is_short goal old new result = Reaches (made_steps is_short) (IsMade is_short) goal A old new result

-- WHAT A CALL OF open ADDED, by its answer
abbrev pub Ends : Result (Journal × Vec Found) OpenFault → List ℕ → List ℕ → Far → List Event → Type 0
Ends (Ok opened) a b far more = (far_steps far ≡ opening a b) × (more ≡ [])
Ends (Err faults.Plant) a b far more = (side : Side) × (more ≡ Missed side ∷ [])
Ends (Err faults.Stopped) a b far more = more ≡ []
Ends (Err fault) a b far more = (far ≡ BothSynced) × (more ≡ [])

pub record Opens (trace : List Event) (steps : List Event) (result : Result (Journal × Vec Found) OpenFault) : Type 0 where
  pub far : Far
  pub more : List Event
  pub steps_are : steps ≡ far_steps far ++ more
  pub blank : MayMake (disk A trace).reads (disk B trace).reads far
  pub ends : Ends result (disk A trace).reads (disk B trace).reads far more
