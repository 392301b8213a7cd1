-- The lab that the reply to a swap tells, the steps of a turn, and those whom a command settles.
use Rattle.std.specs.Prelude.{◌≡◌, ℕ, Bool, true, false, not, is_none, List, [], ◌∷◌, ◌++◌, ◌⊎◌, Some, None, Result, Ok}
use Rattle.std.specs.List.{list_any}
use Rattle.lab_base.specs.Lists.{Has}
use Rattle.lab_base.specs.declared.ids.VlanId.{VlanId}
use Rattle.phys_lab.specs.Labs.{Lab}
use Rattle.virt_topo.specs.declared.experiment.Experiment.{Experiment}
use Rattle.virt_topo.specs.declared.experiment.Phase.{Phase}
use Rattle.virt_topo.specs.declared.experiment.Phase.TheVariants.{Out, In as Inside}
use Rattle.virt_topo.specs.declared.mapping.Mapping.{Mapping}
use Rattle.virt_topo.specs.declared.wiring.Wiring.{Wiring}
use Rattle.virt_topo.specs.Wirings.{mapped}
use Rattle.lab_model.specs.Beside.{violation_beside}
use Rattle.lab_model.specs.Sound.{is_moving}
use Rattle.journal_model.specs.Appends.{All, added}
use Rattle.journal_rec.specs.declared.record.Record.{Record}
use Rattle.swap_turns.specs.Pieces.{has_command}
use Rattle.plant.specs.Events.{Event, Wrote, Synced, Cut, Missed, Did}
use Rattle.plant.specs.declared.device.Answer.{Answer}
use Rattle.plant.specs.declared.device.DeviceOp.{DeviceOp}
use Rattle.plant.specs.declared.device.Fault.{Fault}
use Rattle.plant.specs.declared.step.Side.{Side}
use Rattle.records_model.specs.Labs.{LabState, Move, Commits, Aborts, find, moved, others}
use Rattle.recovery.specs.Due.{is_busy}
use Rattle.solution_text.specs.Solutions.{mapping_of_text}
use Rattle.swap_turns.specs.Swaps.{Swap as SwapOf, Moves}
use Rattle.swap_turns.specs.Turning.{IsOneCommand}
use Rattle.script_text.specs.Drills.{drill_of}
use Rattle.script_text.specs.declared.command.Command.{Command}
use Rattle.script_text.specs.declared.command.Command.TheVariants as commands
use Rattle.script_text.specs.declared.reply.FailedEnd.TheVariants as ends
use Rattle.script_text.specs.declared.reply.Reply.{Reply}
use Rattle.script_text.specs.declared.reply.Reply.TheVariants.{Created, Deleted, In, Lab as LabIs, Out as IsOutside, More, Played, Recovered, Served, Trouble, Failed, FullSwaps, FullJournal, Down, Stopped, Planned, NoDrill, Unread}
use Rattle.lab_base.specs.declared.what.What.TheVariants as whats
use Rattle.lab_tasks.specs.Tasks.{Task, Swap, BeginOnly, Turn, Finish, Recover}
use Rattle.lab_core.specs.LabSteps.{begun_at}
use Rattle.lab_core.specs.Recovery.{Opens}
use Rattle.lab_core.specs.Sessions.{OpenSwap, Session, Closed, Open, names_of, open_at}

-- it begins and turns no swap, and settles none
abbrev pub IsNoSwap : Result Task Reply → Type 0
IsNoSwap (Ok (Swap exp way)) = ⊥
IsNoSwap (Ok (BeginOnly exp way)) = ⊥
IsNoSwap (Ok (Turn exp)) = ⊥
IsNoSwap (Ok (Finish exp)) = ⊥
IsNoSwap (Ok Recover) = ⊥
IsNoSwap judgement = Unit {0}

-- both moves, one after the other, lead from one lab to the other
abbrev pub GoBy : LabState → Move → Move → LabState → Type 0
GoBy s move last after = (mid : LabState) × (moved s move ≡ Some mid) × (moved mid last ≡ Some after)

-- WHAT A REPLY TO A SWAP TELLS OF THE LAB: where it is done, the lab is that of the move and its Commit; where it was undone, that of the move and its
-- Abort; where the experiment is stuck since trouble of a device or a boot, that of the move; and where the journal is full, it is as before
abbrev pub TellsLab : LabState → List ℕ → Move → Reply → LabState → Type 0
TellsLab s exp move (In name) after = (name ≡ exp) × GoBy s move (Commits exp) after
TellsLab s exp move (IsOutside name) after = (name ≡ exp) × GoBy s move (Commits exp) after
TellsLab s exp move (Failed name ends.Out what) after = (name ≡ exp) × GoBy s move (Aborts exp) after
TellsLab s exp move (Failed name ends.In what) after = (name ≡ exp) × GoBy s move (Aborts exp) after
TellsLab s exp move (Failed name ends.Stuck whats.Journal) after = name ≡ exp
TellsLab s exp move (Failed name ends.Stuck what) after = (name ≡ exp) × (moved s move ≡ Some after)
TellsLab s exp move (FullJournal length) after = after ≡ s
TellsLab s exp move reply after = Unit {0}

-- THE LAB AT WHICH THE COMMAND'S OWN PART BEGINS: that to which the opening led, or where the controller is open that of the moment
abbrev pub BeginsAt : Session → LabState → List Event → LabState → Type 0
BeginsAt Closed s opening mid = Opens s opening mid
BeginsAt (Open opens) s opening mid = mid ≡ s

-- the open swaps with which it begins, and their names: an opening finds none
abbrev pub opens_of : Session → List OpenSwap
opens_of Closed = []
opens_of (Open opens) = opens

abbrev pub busy_of : Session → List (List ℕ)
busy_of session = names_of (opens_of session)

-- THE EXPERIMENT OF EACH OPEN SWAP MOVES so in that lab
abbrev pub AllMove : List OpenSwap → LabState → Type 0
AllMove opens s = (o : OpenSwap) → Has opens o → Moves o.running.swap s

-- THE COMMAND SETTLES THE EXPERIMENT of that name, if it moves: each that opens the controller does, and `recover` where it has no open swap
abbrev pub settles : Session → Command → List ℕ → Bool
settles Closed command name = is_none (drill_of command)
settles (Open opens) commands.Recover name = not (is_busy (names_of opens) name)
settles (Open opens) command name = false

-- A NAME IS AT REST: the experiment of that name, if there is one, doesn't move
abbrev pub IsAtRest : LabState → List ℕ → Type 0
IsAtRest s name = (e : Experiment) → find name s.experiments ≡ Some e → is_moving e ≡ false

-- WHAT A REPLY TO A TURN TELLS OF THE LAB, of one or of all up to the end: where the swap ended, the lab is that of its last record; where it goes
-- on, or is stuck since trouble of a device or a boot, it is as before
abbrev pub TellsEnd : LabState → List ℕ → Reply → LabState → Type 0
TellsEnd s exp (In name) after = (name ≡ exp) × (moved s (Commits exp) ≡ Some after)
TellsEnd s exp (IsOutside name) after = (name ≡ exp) × (moved s (Commits exp) ≡ Some after)
TellsEnd s exp (Failed name ends.Out what) after = (name ≡ exp) × (moved s (Aborts exp) ≡ Some after)
TellsEnd s exp (Failed name ends.In what) after = (name ≡ exp) × (moved s (Aborts exp) ≡ Some after)
TellsEnd s exp (Failed name ends.Stuck whats.Journal) after = name ≡ exp
TellsEnd s exp (Failed name ends.Stuck what) after = (name ≡ exp) × (after ≡ s)
TellsEnd s exp (More name) after = (name ≡ exp) × (after ≡ s)
TellsEnd s exp (Trouble name what) after = (name ≡ exp) × (after ≡ s)
TellsEnd s exp reply after = Unit {0}

-- ONE OPEN SWAP MORE, after the others, of an experiment that moves so in that lab: nothing of it was sent
pub record IsOpened (exp : List ℕ) (devices : ℕ) (lab : LabState) (old new : List OpenSwap) : Type 0 where
  pub swap : SwapOf
  pub name : swap.name ≡ exp
  pub moves : Moves swap lab
  pub is : new ≡ old ++ begun_at swap devices ∷ []

-- WHAT A TURN DOES: one device command and no step of the journal, or one append and no device command
pub data IsTurn (own : List Event) : Type 0 where
  sends : IsOneCommand own → IsTurn own
  appends : (side : Side) (gate : ℕ) (entry : Record) → own ≡ added side gate entry All → IsTurn own

-- the command turns the open swap of that experiment, once or to its end
abbrev pub IsTurnOf : List ℕ → Command → Type 0
IsTurnOf exp command = (command ≡ commands.Turn exp) ⊎ (command ≡ commands.Finish exp)

-- a step of the journal
abbrev pub is_of_journal : Event → Bool
is_of_journal (Wrote side at bytes) = true
is_of_journal (Synced side) = true
is_of_journal (Cut side size) = true
is_of_journal (Missed side) = true
is_of_journal event = false

abbrev pub has_journal_step : List Event → Bool
has_journal_step events = list_any is_of_journal events

-- one device command, and after it no other, and no step of the journal
pub record SendsOne (own : List Event) : Type 0 where
  pub op : DeviceOp
  pub applied : Bool
  pub answer : Result Answer Fault
  pub behind : List Event
  pub is : own ≡ Did op applied answer ∷ behind
  pub no_command : has_command behind ≡ false
  pub no_step : has_journal_step behind ≡ false

-- the reply tells that the opening broke off
abbrev pub TellsBroken : Reply → Type 0
TellsBroken Down = Unit {0}
TellsBroken Stopped = Unit {0}
TellsBroken reply = ⊥

-- THE EXPERIMENT IS in that lab, in a phase that is so
abbrev pub is_in : Phase → Bool
is_in (Inside mapping tags) = true
is_in phase = false

pub record IsThere (is : Phase → Bool) (s : LabState) (exp : List ℕ) : Type 0 where
  pub experiment : Experiment
  pub found : find exp s.experiments ≡ Some experiment
  pub is_so : is experiment.phase ≡ true

-- the plant stopped
abbrev pub is_stopped : Reply → Bool
is_stopped Stopped = true
is_stopped reply = false

-- THE REPLY IS OF STEPS: it tells of a swap or of settlings, of a record that was appended, of a reading or a call that failed, or of a stop
abbrev pub is_of_steps : Reply → Bool
is_of_steps (LabIs switches nodes trunks) = true
is_of_steps (Created exp nodes segments) = true
is_of_steps (Deleted exp) = true
is_of_steps (In exp) = true
is_of_steps (IsOutside exp) = true
is_of_steps (More exp) = true
is_of_steps (Trouble exp what) = true
is_of_steps (Failed exp end what) = true
is_of_steps (Recovered done stuck) = true
is_of_steps (Played exp played last closing blaming) = true
is_of_steps (Served served) = true
is_of_steps (Unread name) = true
is_of_steps Down = true
is_of_steps Stopped = true
is_of_steps reply = false

-- the reply is that to a drill
abbrev pub is_of_drill : Reply → Bool
is_of_drill Planned = true
is_of_drill NoDrill = true
is_of_drill reply = false

-- A SOLUTION CAN BE SWAPPED IN: the experiment is there and out, the text has a mapping, and that keeps all rules on what the other experiments leave free
pub record IsFeasibleFor (s : LabState) (exp text : List ℕ) : Type 0 where
  pub lab : Lab
  pub is_lab : s.lab ≡ Some lab
  pub experiment : Experiment
  pub found : find exp s.experiments ≡ Some experiment
  pub out : experiment.phase ≡ Out
  pub mapping : Mapping
  pub reads : mapping_of_text lab experiment.wiring text ≡ Ok mapping
  pub keeps : violation_beside lab (others experiment.name s.experiments) experiment experiment.wiring mapping ≡ None

-- THE EXPERIMENT IS IN BY THAT SOLUTION: with the mapping that the text has for its wiring
pub record IsInBy (s : LabState) (exp text : List ℕ) : Type 0 where
  pub lab : Lab
  pub is_lab : s.lab ≡ Some lab
  pub experiment : Experiment
  pub found : find exp s.experiments ≡ Some experiment
  pub mapping : Mapping
  pub tags : List VlanId
  pub inside : experiment.phase ≡ Inside mapping tags
  pub reads : mapping_of_text lab experiment.wiring text ≡ Ok mapping

-- A SWAP THAT GOES IN BY THAT SOLUTION is open: from its experiment's place to the mapping that the text has for a wiring
pub record GoesIn (opens : List OpenSwap) (s : LabState) (exp text : List ℕ) : Type 0 where
  pub swap : OpenSwap
  pub is_open : open_at exp opens ≡ Some swap
  pub lab : Lab
  pub is_lab : s.lab ≡ Some lab
  pub wiring : Wiring
  pub mapping : Mapping
  pub tags : List VlanId
  pub new : swap.running.swap.new ≡ Some (mapped wiring mapping tags)
  pub reads : mapping_of_text lab wiring text ≡ Ok mapping

-- the reply to a swap-in that is done, and where `open` stands before it to one that has begun
abbrev pub taken_reply : Bool → List ℕ → Reply
taken_reply true exp = More exp
taken_reply false exp = In exp

-- the reply tells what hindered it: so many swaps are open, the journal is full, trouble of a device, a boot or the journal, a failure
-- of the disk in the opening, or a stop
abbrev pub Hinders : Reply → Type 0
Hinders FullSwaps = Unit {0}
Hinders (FullJournal length) = Unit {0}
Hinders (Failed exp end what) = Unit {0}
Hinders Down = Unit {0}
Hinders Stopped = Unit {0}
Hinders reply = ⊥
