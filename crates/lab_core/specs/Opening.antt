-- The steps that a call of `open` adds to a trace, and the state after them.
use Rattle.std.specs.Prelude.{Bool, ◌≡◌, ◌⊎◌, ◌<◌, ◌≤◌, ◌+◌, ◌*◌, ℕ, true, false, count_by, List, [], ◌++◌, take, Option, Result, Ok, Err, IfSome}
use Rattle.plant.specs.Disks.{disk, ArePossible}
use Rattle.std.specs.List.{list_any}
use Rattle.plant.specs.Events.{Event, Wrote, Cut, Did}
use Rattle.plant.specs.Told.{Told, with_steps}
use Rattle.plant.specs.declared.step.Side.{Side}
use Rattle.plant.specs.declared.step.Side.TheVariants.{A, B}
use Rattle.journal_rec.specs.declared.record.Record.{Record}
use Rattle.journal_model.specs.Journals.{Records, New, gate_after, head, live}
use Rattle.lab_model.specs.Sound.{is_moving}
use Rattle.records_model.specs.Labs.{LabState, LabOf, StopsAt, at_first}
use Rattle.records_model.specs.Works.{IsSound}
use Rattle.journal_disk.specs.Standing.{gate_of, side_of, length_of}
use Rattle.journal_disk.specs.declared.journal.Journal.{Journal}
use Rattle.lab_state.specs.Texts.{the_texts}
use Rattle.journal_disk.specs.Opening.{both_synced}
use Rattle.journal_disk.specs.Before.{AreAsBefore, AreSettled, ReadAlike, are_synced}
use Rattle.journal_disk.specs.declared.fault.OpenFault.{OpenFault}
use Rattle.journal_disk.specs.declared.fault.OpenFault.TheVariants as faults
use Rattle.swap_turns.specs.Pieces.{has_command, has_miss, has_outer}
use Rattle.plant.specs.Seen.{Seen}
use Rattle.recovery.specs.Due.{swaps_of}
use Rattle.recovery.specs.Settle.{SettledAll, SettledSome}
use Rattle.recovery.specs.declared.all.Settled.{Settled}
use Rattle.swap_turns.specs.Settling.{Settles, BreaksOff, HasBrokenOff}
use Rattle.swap_turns.specs.Turning.{Outcome, Unwritten, Stopped as Halted}
use Rattle.lab_core.specs.Compaction.{IsCompacted, IsPlaced, IsToMove}
use Rattle.lab_core.specs.Controller.{Control}
use Rattle.lab_core.specs.Moments.{AllStandFor, IsBlankOrFirst, IsFoundAt, IsLabAt, IsLiveAt, IsNoJournal, StandForLab}
use Rattle.lab_core.specs.Recovery.{SettlesFirst, Shifts}

-- a step that may change what a side reads as, or what the devices have
abbrev pub is_change : Event → Bool
is_change (Wrote side at bytes) = true
is_change (Cut side size) = true
is_change (Did op applied answer) = true
is_change event = false

abbrev pub has_change : List Event → Bool
has_change events = list_any is_change events

-- A NEW JOURNAL IS MADE: both sides are blank, and whatever a stop may leave of them behind these steps is blank still, or has the first journal
pub record MakesFirst (trace steps : List Event) : Type 0 where
  pub blank : live (head (disk A trace).reads) (head (disk B trace).reads) ≡ New
  pub first : (a b : List ℕ) → ArePossible (trace ++ steps) a b → IsBlankOrFirst a b

-- WHAT THE PART THAT READS ADDED, whatever came of it
pub record ReadSteps (trace steps : List Event) : Type 0 where
  -- no device command, no start of a stopped plant, and no reading of a device that failed
  pub no_command : has_command steps ≡ false
  pub no_outer : has_outer steps ≡ false
  -- it writes a new journal, and that only where both sides are blank
  pub changes : has_change steps ≡ true → MakesFirst trace steps
  -- at each moment each image has the records, or the bad place, of one that was possible when the call began
  pub before : AreAsBefore trace steps
  -- and once both sides are synced, those of what the sides read as then
  pub settled : AreSettled trace steps
  -- the sides read as the same records, or as bad at the same place, as before
  pub alike : ReadAlike (disk A (trace ++ steps)).reads (disk B (trace ++ steps)).reads (disk A trace).reads (disk B trace).reads
  pub sound : IsSound the_texts trace → IsSound the_texts (trace ++ steps)

-- THE SIDES ARE A JOURNAL: each of its records can follow, and after them is room for the last records of the experiments that move
pub record IsJournal (a b : List ℕ) (limit : ℕ) : Type 0 where
  pub records : List Record
  pub lab : LabState
  pub read : Records a b records
  pub lab_of : LabOf the_texts records lab
  pub room : gate_after records + 1 + 39 * count_by is_moving lab.experiments ≤ limit

-- THE SIDES WERE READ: no call failed, both are synced, they are a journal, and the lab is that of the moment. A side that was live is so; where both
-- were blank, side A is, with epoch 1
pub record HasRead (trace reading : List Event) (limit : ℕ) (start : LabState) : Type 0 where
  pub no_miss : has_miss reading ≡ false
  pub synced : are_synced reading ≡ true
  pub journal : IsJournal (disk A trace).reads (disk B trace).reads limit
  pub lab : IsLabAt (trace ++ reading) start
  pub kept : (side : Side) (epoch : ℕ) → IsFoundAt trace side epoch → IsLiveAt (trace ++ reading) side epoch

-- THE SIDES ARE NO JOURNAL. They are synced, and nothing else is done, so neither reads other than before.
pub record HasFoundNone (trace steps : List Event) (limit : ℕ) (side : Side) (at : ℕ) : Type 0 where
  pub no_journal : IsNoJournal (disk A trace).reads (disk B trace).reads limit side at
  pub synced : steps ≡ both_synced
  pub as_before : (s : Side) → (disk s (trace ++ steps)).reads ≡ (disk s trace).reads

-- what came of reading: after Plant a call failed
abbrev pub ReadEnds : List Event → List Event → ℕ → Result Control OpenFault → Type 0
ReadEnds trace reading limit (Ok c) = HasRead trace reading limit c.lab
ReadEnds trace reading limit (Err (faults.Bad side at)) = HasFoundNone trace reading limit side at
ReadEnds trace reading limit (Err faults.Plant) = has_miss reading ≡ true
ReadEnds trace reading limit (Err fault) = Unit {0}

abbrev pub ReadTold : Option Told → Option Told → ℕ → Result Control OpenFault → Type 0
ReadTold before now limit result = (reading : List Event) × (now ≡ with_steps before reading) × IfSome before (λ t. ReadSteps t.trace reading × ReadEnds t.trace reading limit result)

-- ALL WERE SETTLED that moved in the lab that was read, and that led to this lab, with the journal in this place
pub record HasSettledAll (trace reading moving : List Event) (limit length : ℕ) (side : Side) (epoch : ℕ) (lab : LabState) : Type 0 where
  pub start : LabState
  pub read : HasRead trace reading limit start
  pub outcomes : List Outcome
  pub settles : Settles start (swaps_of [] start.experiments) outcomes moving lab
  pub placed : IsPlaced trace (trace ++ (reading ++ moving)) length side epoch

-- AFTER Ok: all are settled, and then the journal was moved exactly where it is to move; the side that was live is as it was
pub record HasOpened (trace reading behind : List Event) (limit : ℕ) (c : Control) : Type 0 where
  pub moving : List Event
  pub shifting : List Event
  pub parts : behind ≡ moving ++ shifting
  pub length : ℕ
  pub side : Side
  pub epoch : ℕ
  pub settled : HasSettledAll trace reading moving limit length side epoch c.lab
  pub compacts : IsCompacted (trace ++ (reading ++ moving)) shifting length side epoch c.lab
  pub shifts : Shifts shifting
  pub aside : disk side ((trace ++ (reading ++ moving)) ++ shifting) ≡ disk side (trace ++ (reading ++ moving))

-- THE MOVE OF THE JOURNAL BROKE OFF, where it is to move: the side that was live is as it was, and over a sound trace each possible image stands for the
-- lab that all settlings led to
pub record ShiftsInPart (trace reading behind : List Event) (limit : ℕ) : Type 0 where
  pub moving : List Event
  pub shifting : List Event
  pub parts : behind ≡ moving ++ shifting
  pub length : ℕ
  pub side : Side
  pub epoch : ℕ
  pub lab : LabState
  pub settled : HasSettledAll trace reading moving limit length side epoch lab
  pub to_move : IsToMove length epoch lab
  pub shifts : Shifts shifting
  pub aside : disk side ((trace ++ (reading ++ moving)) ++ shifting) ≡ disk side (trace ++ (reading ++ moving))
  pub images : IsSound the_texts trace → AllStandFor (trace ++ (reading ++ behind)) lab

-- THE SETTLING BROKE OFF in one, by a call of the journal that failed or by a stop; and over a sound trace each possible image stands for a lab to which
-- these steps led
pub record SettlesInPart (trace reading moving : List Event) (limit : ℕ) (outcome : Outcome) : Type 0 where
  pub start : LabState
  pub read : HasRead trace reading limit start
  pub lab : LabState
  pub breaks : BreaksOff start (swaps_of [] start.experiments) moving outcome lab
  pub images : IsSound the_texts trace → (a b : List ℕ) → ArePossible (trace ++ (reading ++ moving)) a b → (after : LabState) × StandForLab a b after × BreaksOff start (swaps_of [] start.experiments) moving outcome after

-- memory was wanting in it: some are settled, and the sides and each possible image stand for the lab after them
pub record SettlesToMemory (trace reading moving : List Event) (limit : ℕ) : Type 0 where
  pub start : LabState
  pub read : HasRead trace reading limit start
  pub lab : LabState
  pub some : SettlesFirst start [] moving lab
  pub at : IsLabAt (trace ++ (reading ++ moving)) lab
  pub images : AllStandFor (trace ++ (reading ++ moving)) lab

-- BY ITS ANSWER: a fault comes of reading, before anything is settled; or a call of the journal failed in the settling, or the plant stopped in it, or
-- memory was wanting
abbrev pub InSettling : List Event → List Event → List Event → ℕ → OpenFault → Type 0
InSettling trace reading moving limit faults.Plant = (has_miss moving ≡ true) × SettlesInPart trace reading moving limit Unwritten
InSettling trace reading moving limit faults.Stopped = SettlesInPart trace reading moving limit Halted
InSettling trace reading moving limit faults.Memory = SettlesToMemory trace reading moving limit
InSettling trace reading moving limit (faults.Bad side at) = ⊥

-- or a call failed in the move of the journal after it, or the plant stopped in that
abbrev pub InShifting : List Event → List Event → List Event → ℕ → OpenFault → Type 0
InShifting trace reading behind limit faults.Plant = (has_miss behind ≡ true) × ShiftsInPart trace reading behind limit
InShifting trace reading behind limit faults.Stopped = ShiftsInPart trace reading behind limit
InShifting trace reading behind limit fault = ⊥

abbrev pub OpenEnds : List Event → List Event → List Event → ℕ → Result Control OpenFault → Type 0
OpenEnds trace reading behind limit (Ok c) = HasOpened trace reading behind limit c
OpenEnds trace reading behind limit (Err fault) = ((behind ≡ []) × ReadEnds trace reading limit (Err fault)) ⊎ (InSettling trace reading behind limit fault ⊎ InShifting trace reading behind limit fault)

-- WHAT AN OPENING ADDED: a part that reads, and after it the settling of all experiments that move and the journal's move; it starts no plant, no reading failed in it,
-- and a sound trace stays sound
pub record OpenSteps (trace reading behind : List Event) (limit : ℕ) (result : Result Control OpenFault) : Type 0 where
  pub reads : ReadSteps trace reading
  pub no_outer : has_outer behind ≡ false
  pub ends : OpenEnds trace reading behind limit result
  pub sound : IsSound the_texts trace → IsSound the_texts (trace ++ (reading ++ behind))

abbrev pub OpenTold : Option Told → Option Told → ℕ → Result Control OpenFault → Type 0
OpenTold before now limit result = (reading : List Event) × (behind : List Event) × (now ≡ with_steps before (reading ++ behind)) × IfSome before (λ t. OpenSteps t.trace reading behind limit result)

-- AFTER THE SETTLING of a controller that has read: all are settled; or it broke off, or memory was wanting in it
abbrev pub AfterOpening : Control → Seen → Seen → Result Control OpenFault → Type 0
AfterOpening c before now (Ok new) = (settled : Settled) × SettledAll the_texts c.lab [] before now c.journal new.journal new.lab settled
AfterOpening c before now (Err faults.Memory) = (journal : Journal) × (lab : LabState) × SettledSome the_texts c.lab [] before now c.journal journal lab
AfterOpening c before now (Err faults.Plant) = HasBrokenOff the_texts c.lab (swaps_of [] c.lab.experiments) before now Unwritten
AfterOpening c before now (Err faults.Stopped) = HasBrokenOff the_texts c.lab (swaps_of [] c.lab.experiments) before now Halted
AfterOpening c before now (Err (faults.Bad side at)) = ⊥

-- what the records and the limit make of it
abbrev pub IsOfJournal : ℕ → Journal → List Record → Result Control OpenFault → Type 0
IsOfJournal limit j rs (Ok c) = (c.journal ≡ j) × LabOf the_texts rs c.lab × (length_of j + 39 * count_by is_moving c.lab.experiments ≤ limit)
IsOfJournal limit j rs (Err (faults.Bad side at)) = (side ≡ side_of j)
    × (((n : ℕ) × StopsAt the_texts at_first rs n × (at ≡ gate_after (take n rs)))
    ⊎ ((s : LabState) × LabOf the_texts rs s × (limit < length_of j + 39 * count_by is_moving s.experiments) × (at ≡ gate_of j)))
IsOfJournal limit j rs (Err faults.Memory) = Unit {0}
IsOfJournal limit j rs (Err faults.Plant) = ⊥
IsOfJournal limit j rs (Err faults.Stopped) = ⊥
