-- The plant and the controller after one command.
use Rattle.std.specs.Prelude.{◌≡◌, ◌⊎◌, ℕ, ◌<◌, ◌≤◌, ◌+◌, ◌^◌, Bool, true, false, is_some, List, [], ◌∷◌, ◌++◌, length, take, Option, Some, None, IfSome, Result, Ok, Err, if◌then◌else◌}
use Rattle.std.specs.Io.KnownBytes.{append_known}
use Rattle.lab_base.specs.Counts.{Rose}
use Rattle.plant.specs.Disks.{disk, ArePossible}
use Rattle.plant.specs.Events.{Event, Restarted}
use Rattle.plant.specs.Seen.{Seen}
use Rattle.plant.specs.Told.{Told, with_steps, with_mark, with_drill}
use Rattle.plant.specs.declared.drill.Drill.{Drill}
use Rattle.plant.specs.declared.moment.Faults.{Faults}
use Rattle.plant.specs.declared.step.Side.{Side}
use Rattle.plant.specs.declared.step.Side.TheVariants.{A, B}
use Rattle.records_model.specs.Labs.{LabState, at_first}
use Rattle.records_model.specs.Works.{IsSound}
use Rattle.journal_disk.specs.Standing.{length_of, limit_of}
use Rattle.journal_disk.specs.declared.fault.OpenFault.{OpenFault}
use Rattle.journal_disk.specs.declared.fault.OpenFault.TheVariants as openings
use Rattle.swap_turns.specs.Lengths.{appended}
use Rattle.swap_turns.specs.Pieces.{has_restart}
use Rattle.lab_state.specs.Texts.{the_texts}
use Rattle.swap_turns.specs.Running.{Stands}
use Rattle.script_text.specs.declared.command.Command.{Command}
use Rattle.script_text.specs.declared.reply.Reply.{Reply}
use Rattle.script_text.specs.declared.reply.Reply.TheVariants.{Down, NoDrill, Planned, Stopped}
use Rattle.script_text.specs.Drills.{drill_of}
use Rattle.script_text.specs.Replies.{text_of}
use Rattle.lab_core.specs.Controller.{Control, WorksWith}
use Rattle.lab_core.specs.Commands.{DoesCommand, LabStep}
use Rattle.lab_core.specs.Moments.{IsLabAt, trace_in, with_more}
use Rattle.lab_core.specs.Recovery.{Opens}
use Rattle.lab_core.specs.Sessions.{OpenSwap, Session, Closed, Open, Setting, After, AreOpenedBy, counted_from, Terms}
use Rattle.lab_tasks.specs.OpenNames.{name_of}
use Rattle.lab_core.specs.Tells.{opens_of}
use Rattle.lab_top.specs.declared.command.CommandFault.{CommandFault}
use Rattle.lab_top.specs.declared.command.CommandFault.TheVariants.{Memory, WriteFault, JournalBad}
use Rattle.lab_top.specs.Pieces.{Piece, FindsNone, IsDone, IsPiece, IsPlannedBy, Leads, Later, StepsFrom, WantsAfter, WantsOnly, blames_if, blames_now_if, closes_if, is_closed, may_shut, stays_open, with_drill_if, GoesFrom, Held, OwnStep, held_after}

-- what is seen of the plant between two commands, and the controller where it is open
pub record Moment : Type 0 where
  pub plant : Seen
  pub controller : Option Control

-- AN OPEN CONTROLLER works with these open swaps, for a journal of this limit
pub record IsOpen (now : Seen) (c : Control) (swaps : List OpenSwap) : Type 0 where
  pub works : WorksWith now c swaps
  pub limit : limit_of c.journal ≡ 2 ^ 32

abbrev pub MayOpen : Seen → Control → Type 0
MayOpen now c = (swaps : List OpenSwap) × IsOpen now c swaps

-- A SESSION STANDS at a moment: it is closed where there is no controller, and else open with the swaps that the controller works with
abbrev pub StandsAt : Seen → Option Control → Session → Type 0
StandsAt plant None Closed = Unit {0}
StandsAt plant (Some c) (Open swaps) = IsOpen plant c swaps
StandsAt plant controller session = ⊥

-- and the plant is not stopped where there is one
pub record HasSession (now : Moment) (session : Session) : Type 0 where
  pub stands : StandsAt now.plant now.controller session
  pub runs : is_some now.controller ≡ true → now.plant.stopped ≡ false

abbrev pub MayGoOn : Moment → Type 0
MayGoOn now = (session : Session) × HasSession now session

-- the piece of a command
abbrev pub piece_of : Command → Faults → Session → Session → List Event → List Event → Option Reply → Piece
piece_of command mark from to opening own reply = record { command = command; faults = mark; from = from; to = to; opening = opening; own = own; reply = reply }

-- a controller that was opened by these steps over the trace, or was open before: it stands after them for the lab to which they led, from that
-- which the sides stood for
pub record WasOpened (trace : List Event) (from : Session) (opening : List Event) (c : Control) (swaps : List OpenSwap) : Type 0 where
  pub start : LabState
  pub readable : ArePossible trace (disk A trace).reads (disk B trace).reads
  pub first : IsLabAt trace start
  pub no_restart : has_restart opening ≡ false
  pub stands : Stands the_texts (trace ++ opening) c.journal c.lab
  pub sound : IsSound the_texts trace → IsSound the_texts (trace ++ opening)
  pub limit : limit_of c.journal ≡ 2 ^ 32
  pub opens : from ≡ Closed → Opens start opening c.lab
  pub step : (terms : Terms) (set : Setting) (command : Command) (own : List Event) (after : After) → drill_of command ≡ None → DoesCommand terms.rule command (Some (trace ++ opening)) set swaps c.lab own after
      → LabStep terms (Some trace) set start from command opening own after

-- what an open controller does of a command, however it was opened
pub record Does (terms : Terms) (trace : List Event) (piece : Piece) : Type 0 where
  pub steps : (s : LabState) → IsLabAt trace s → (after : LabState) × StepsFrom terms trace piece s after
  pub leads : is_closed piece.to ≡ false → Leads terms trace piece
  pub done : IsSound the_texts trace → IsDone terms trace piece

abbrev pub DoesOwn : Terms → List Event → Command → Faults → Control → List OpenSwap → List Event → Session → Option Reply → Type 0
DoesOwn terms trace command mark c swaps own to reply = (before : List Event) (from : Session) (opening : List Event) → trace ≡ before ++ opening → WasOpened before from opening c swaps
    → Does terms before (piece_of command mark from to opening own reply)

-- what a controller holds, and what is held before the first opening
abbrev pub held_of : Control → Held
held_of c = record { lab = c.lab; length = length_of c.journal }

abbrev pub held_first : Held
held_first = record { lab = at_first; length = 0 }

-- over every plant: a lab step, to that lab
abbrev pub DoesEver : Terms → Option (List Event) → Command → Faults → Control → List OpenSwap → List Event → Session → Option Reply → Type 0
DoesEver terms trace command mark c swaps own to reply = (after : LabState) × OwnStep terms trace (piece_of command mark (Open swaps) to [] own reply) (held_of c) after

abbrev pub OwnTold : Terms → Option Told → Option Told → Command → Faults → Control → List OpenSwap → Session → Option Reply → Type 0
OwnTold terms old new command mark c swaps to reply =
    (own : List Event) × (new ≡ with_steps old own) × IfSome old (λ t. DoesOwn terms t.trace command mark c swaps own to reply) × DoesEver terms (trace_in old) command mark c swaps own to reply

-- the count of device faults at the mark is at most that of the moment, which an opening may come before
abbrev pub IsMarkAt : Faults → Seen → Type 0
IsMarkAt mark now = mark.devices ≤ now.faults.devices

abbrev pub reply_if : Result Reply CommandFault → Option Reply
reply_if (Ok reply) = Some reply
reply_if (Err fault) = None

-- WHAT AN OPEN CONTROLLER MAKES of a command after that mark, with these open swaps: the session after it, which is closed where there is no reply
pub record Makes (terms : Terms) (mark : Faults) (command : Command) (old : Seen) (c : Control) (swaps : List OpenSwap) (new : Moment) (reply : Option Reply) : Type 0 where
  pub to : Session
  pub own : OwnTold terms old.told new.plant.told command mark c swaps to reply
  pub held : IfSome new.controller (λ d. held_of d ≡ record { lab = own.3.0; length = length_of c.journal + appended own.0 })
  pub shut : is_closed to ≡ true → may_shut reply ≡ true
  pub closed : stays_open reply ≡ false → to ≡ Closed
  pub device : blames_if reply ≡ true → Rose (counted_from swaps (name_of command) mark.devices) new.plant.faults.devices
  pub here : blames_now_if reply ≡ true → Rose old.faults.devices new.plant.faults.devices
  pub opened : AreOpenedBy (name_of command) reply swaps (opens_of to) mark.devices
  pub goes_on : HasSession new to
  pub wants : is_some reply ≡ false → new.plant.stopped ≡ false → IfSome old.told (λ t. WantsAfter terms.rule command t.trace (record { length = length_of c.journal; limit = limit_of c.journal; devices = mark.devices }) c.lab swaps own.0)

-- A DRILL IS PLANNED on a plant that takes drills, and else refused; or memory is wanting, and nothing is done
abbrev pub Plans : Bool → Drill → Option Told → Option Told → Result Reply CommandFault → Type 0
Plans takes drill old new (Ok reply) = ((reply ≡ Planned) × (takes ≡ true) × (new ≡ with_drill old drill)) ⊎ ((reply ≡ NoDrill) × (takes ≡ false) × (new ≡ old))
Plans takes drill old new (Err fault) = (fault ≡ Memory) × (new ≡ old)

-- A STOPPED PLANT IS STARTED AGAIN, and the reply tells it; or memory is wanting, and nothing is done
abbrev pub Starts : Option Told → Option Told → Result Reply CommandFault → Type 0
Starts old new (Ok reply) = (reply ≡ Stopped) × ((a b : List ℕ) × (new ≡ with_steps old (Restarted a b ∷ [])) × IfSome old (λ t. ArePossible t.trace a b))
Starts old new (Err fault) = (fault ≡ Memory) × (new ≡ old)

-- what is done where the controller could not be opened
abbrev pub Unopened : OpenFault → Option Told → Option Told → Result Reply CommandFault → Type 0
Unopened openings.Plant old new result = (result ≡ Ok Down) × (new ≡ old)
Unopened openings.Stopped old new result = Starts old new result
Unopened (openings.Bad side at) old new result = (result ≡ Err (JournalBad side at)) × (new ≡ old)
Unopened openings.Memory old new result = (result ≡ Err Memory) × (new ≡ old)

-- A COMMAND WAS BEGUN, by some steps, and perhaps a drill that was planned; it has a reply or none
pub record Begins (terms : Terms) (command : Command) (mark : Faults) (old new : Option Told) (from to : Session) (reply : Option Reply) : Type 0 where
  pub opening : List Event
  pub own : List Event
  pub planned : Bool
  pub told : new ≡ with_drill_if (with_steps old (opening ++ own)) (if planned then drill_of command else None)
  pub planned_by : IsPlannedBy terms (drill_of command) planned reply
  pub is_piece : IfSome old (λ t. IsPiece terms t.trace (piece_of command mark from to opening own reply))

-- THE LAB IS HANDED ON, over every plant, with the length of the journal: from those of the controller before the command, where it was open, to those of
-- the one after it
pub record HandsLab (terms : Terms) (told : Option Told) (piece : Piece) (old new : Option Control) : Type 0 where
  pub at : Held
  pub after : LabState
  pub first : IfSome old (λ c. at ≡ held_of c)
  pub goes : GoesFrom (drill_of piece.command) terms (with_more (trace_in told) piece.opening) piece at after
  pub last : IfSome new (λ c. held_of c ≡ held_after piece at after)

pub record Made (terms : Terms) (command : Command) (old new : Moment) (from to : Session) (reply : Option Reply) : Type 0 where
  pub begun : Begins terms command old.plant.faults old.plant.told new.plant.told from to reply
  pub labs : HandsLab terms old.plant.told (piece_of command old.plant.faults from to begun.opening begun.own reply) old.controller new.controller
  pub later : Later old.plant.faults new.plant.faults
  pub disk : closes_if reply ≡ true → Rose old.plant.faults.disk new.plant.faults.disk
  pub device : blames_if reply ≡ true → Rose (counted_from (opens_of from) (name_of command) old.plant.faults.devices) new.plant.faults.devices
  pub here : blames_now_if reply ≡ true → Rose old.plant.faults.devices new.plant.faults.devices
  pub opened : AreOpenedBy (name_of command) reply (opens_of from) (opens_of to) old.plant.faults.devices
  pub shut : stays_open reply ≡ false → to ≡ Closed
  pub runs : is_some reply ≡ true → old.plant.stopped ≡ false → new.plant.stopped ≡ false
  pub goes_on : is_some reply ≡ true → HasSession new to
  pub wants : is_some reply ≡ false → new.plant.stopped ≡ false
      → IfSome old.plant.told (λ t. WantsOnly terms t.trace (piece_of command old.plant.faults from to begun.opening begun.own reply))

-- the sides are no journal, and the plant is not stopped
pub record FoundNone (terms : Terms) (command : Command) (old new : Moment) (from : Session) (side : Side) (at : ℕ) : Type 0 where
  pub made : Made terms command old new from Closed None
  pub no_drill : drill_of command ≡ None
  pub closed : from ≡ Closed
  pub finds : IfSome old.plant.told (λ t. FindsNone t.trace (piece_of command old.plant.faults from Closed made.begun.opening made.begun.own None) side at)
  pub runs : new.plant.stopped ≡ false

-- A COMMAND WAS OBEYED from that session, or its drill planned: it was begun; and where the sides are no journal it found them so
abbrev pub Ends : Terms → Command → (old new : Moment) → Session → Result Reply CommandFault → Type 0
Ends terms command old new from (Ok reply) = (to : Session) × Made terms command old new from to (Some reply)
Ends terms command old new from (Err Memory) = Made terms command old new from Closed None
Ends terms command old new from (Err WriteFault) = ⊥
Ends terms command old new from (Err (JournalBad side at)) = FoundNone terms command old new from side at

-- a reply's text is written, or a proper prefix of it; or memory is wanting, and nothing is
abbrev pub Sent : Option (List ℕ) → Option (List ℕ) → List ℕ → Result (Unit {0}) CommandFault → Type 0
Sent before now text (Ok done) = now ≡ append_known before text
Sent before now text (Err WriteFault) = (n : ℕ) × (n < length text) × (now ≡ append_known before (take n text))
Sent before now text (Err Memory) = now ≡ before
Sent before now text (Err (JournalBad side at)) = ⊥

-- the moment is marked
abbrev pub marked : Moment → Moment
marked old = record old { plant = record (old.plant) { told = with_mark old.plant.told old.plant.faults } }

-- A COMMAND WAS ANSWERED: it was begun after a mark, and what was written grew by its reply, which was taken, or by a proper prefix of it. At want of
-- memory it has no reply, or wasn't even begun; where the sides are no journal it has none.
abbrev pub Answered : Terms → Command → Moment → Moment → Session → Option (List ℕ) → Option (List ℕ) → (Reply → Type 0) → Result (Unit {0}) CommandFault → Type 0
Answered terms command old new from before now taken (Ok done) =
    (reply : Reply) × (to : Session) × Made terms command (marked old) new from to (Some reply) × (now ≡ append_known before (text_of reply)) × taken reply
Answered terms command old new from before now taken (Err WriteFault) =
    (reply : Reply) × (to : Session) × Made terms command (marked old) new from to (Some reply) × (n : ℕ) × (n < length (text_of reply)) × (now ≡ append_known before (take n (text_of reply)))
Answered terms command old new from before now taken (Err Memory) = ((new.plant ≡ old.plant) ⊎ Made terms command (marked old) new from Closed None) × (now ≡ before)
Answered terms command old new from before now taken (Err (JournalBad side at)) = FoundNone terms command (marked old) new from side at × (now ≡ before)
