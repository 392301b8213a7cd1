-- The lab of a moment, and the states that are no journal.
use Rattle.std.specs.Prelude.{◌≡◌, ◌⊎◌, ◌+◌, ◌*◌, ◌<◌, ◌≤◌, ℕ, count_by, List, ◌++◌, take, Option, Some, None, IfSome}
use Rattle.plant.specs.Disks.{disk, ArePossible}
use Rattle.plant.specs.Events.{Event}
use Rattle.plant.specs.Told.{Told}
use Rattle.plant.specs.declared.step.Side.{Side}
use Rattle.plant.specs.declared.step.Side.TheVariants.{A, B}
use Rattle.journal_rec.specs.declared.record.Record.{Record}
use Rattle.journal_rec.specs.Payloads.{number}
use Rattle.journal_model.specs.Journals.{Records, Bad, New, On, Headed, live, head, gate_after, journal_length}
use Rattle.records_model.specs.Labs.{LabState, LabOf, StopsAt, at_first}
use Rattle.swap_turns.specs.Working as runs
use Rattle.lab_model.specs.Sound.{is_moving}
use Rattle.lab_state.specs.Texts.{the_texts}

-- two sides stand for that lab
abbrev pub StandForLab : List ℕ → List ℕ → LabState → Type 0
StandForLab a b s = runs.StandForLab the_texts a b s

-- THE LAB OF A MOMENT: that of what the sides read as
abbrev pub IsLabAt : List Event → LabState → Type 0
IsLabAt trace s = StandForLab (disk A trace).reads (disk B trace).reads s

-- a possible image stands for the lab; all of them do
pub record IsLabOfImage (trace : List Event) (s : LabState) : Type 0 where
  pub a : List ℕ
  pub b : List ℕ
  pub possible : ArePossible trace a b
  pub stand : StandForLab a b s

abbrev pub AllStandFor : List Event → LabState → Type 0
AllStandFor trace s = runs.AllStandFor the_texts trace s

-- the journal's length, as the sides read
pub record IsLengthAt (trace : List Event) (n : ℕ) : Type 0 where
  pub records : List Record
  pub read : Records (disk A trace).reads (disk B trace).reads records
  pub is : n ≡ journal_length (disk A trace).reads (disk B trace).reads records

-- THE TRACE, where a plant tells it; and with some steps more
abbrev pub trace_in : Option Told → Option (List Event)
trace_in None = None
trace_in (Some told) = Some told.trace

abbrev pub with_more : Option (List Event) → List Event → Option (List Event)
with_more None steps = None
with_more (Some trace) steps = Some (trace ++ steps)

-- the journal's length after these steps, as the sides read there, where the trace is told; it is within the limit
pub record IsLengthAfter (trace : Option (List Event)) (steps : List Event) (limit n : ℕ) : Type 0 where
  pub told : IfSome trace (λ t. IsLengthAt (t ++ steps) n)
  pub within : n ≤ limit

-- the live side, as the sides read, and the epoch in its header
pub record IsLiveAt (trace : List Event) (side : Side) (epoch : ℕ) : Type 0 where
  pub live_is : live (head (disk A trace).reads) (head (disk B trace).reads) ≡ On side
  pub bytes : List ℕ
  pub headed : head (disk side trace).reads ≡ Headed bytes
  pub is : epoch ≡ number bytes

-- TWO SIDES WITH A FIRST JOURNAL AT MOST: both are blank, or side A is live, with epoch 1
abbrev pub IsBlankOrFirst : List ℕ → List ℕ → Type 0
IsBlankOrFirst a b = (live (head a) (head b) ≡ New) ⊎ ((bytes : List ℕ) × (live (head a) (head b) ≡ On A) × (head a ≡ Headed bytes) × (number bytes ≡ 1))

-- WHERE AN OPENING FINDS THE JOURNAL: that; and where both sides are blank, where it makes a new one, on side A with epoch 1
abbrev pub IsFoundAt : List Event → Side → ℕ → Type 0
IsFoundAt trace side epoch = IsLiveAt trace side epoch ⊎ ((live (head (disk A trace).reads) (head (disk B trace).reads) ≡ New) × (side ≡ A) × (epoch ≡ 1))

-- THE THREE STATES THAT ARE NO JOURNAL, with the side and the position that tell them
pub data IsNoJournal (a b : List ℕ) (limit : ℕ) (side : Side) (at : ℕ) : Type 0 where
  -- the sides are bad there
  bad : Bad a b side at → IsNoJournal a b limit side at
  -- the record behind that gate is the first that can't follow
  cannot_follow : (rs : List Record) (n : ℕ) → Records a b rs → live (head a) (head b) ≡ On side → StopsAt the_texts at_first rs n → at ≡ gate_after (take n rs) → IsNoJournal a b limit side at
  -- there is no room for the last records of the experiments that move; `at` is the last gate
  no_room : (rs : List Record) (s : LabState) → Records a b rs → live (head a) (head b) ≡ On side → LabOf the_texts rs s
      → limit < gate_after rs + 1 + 39 * count_by is_moving s.experiments → at ≡ gate_after rs → IsNoJournal a b limit side at
