-- Pieces: what a command does, from its mark to its reply.
use Rattle.std.specs.Prelude.{◌≡◌, ◌⊎◌, ◌<◌, ◌≤◌, ◌+◌, ◌-◌, ◌*◌, ◌^◌, ℕ, Bool, true, false, ◌&&◌, not, is_some, List, [], ◌∷◌, ◌++◌, map, Option, Some, None, Ok, if◌then◌else◌, IfSome}
use Rattle.std.specs.List.{flat_map}
use Rattle.lab_base.specs.Lists.{Has}
use Rattle.lab_base.specs.Counts.{Rose}
use Rattle.lab_model.specs.Sound.{is_moving}
use Rattle.recovery.specs.Due.{is_busy}
use Rattle.plant.specs.Disks.{disk, ArePossible}
use Rattle.plant.specs.Events.{Event, Restarted}
use Rattle.plant.specs.Worlds.{World, world_of}
use Rattle.plant.specs.Told.{Told, with_steps, with_mark, with_drill}
use Rattle.plant.specs.declared.drill.Drill.{Drill}
use Rattle.plant.specs.declared.moment.Faults.{Faults}
use Rattle.plant.specs.declared.step.Side.{Side}
use Rattle.plant.specs.declared.step.Side.TheVariants.{A, B}
use Rattle.virt_topo.specs.declared.experiment.Experiment.{Experiment}
use Rattle.virt_topo.specs.declared.experiment.Phase.{Phase}
use Rattle.journal_model.specs.Appends.{other_side}
use Rattle.records_model.specs.Labs.{LabState, find, is_out, Sane}
use Rattle.records_model.specs.Works.{IsSound}
use Rattle.journal_disk.specs.Before.{are_synced}
use Rattle.journal_disk.specs.Opening.{both_synced}
use Rattle.swap_turns.specs.Lengths.{appended}
use Rattle.swap_turns.specs.Pieces.{has_miss, has_restart}
use Rattle.lab_state.specs.Texts.{the_texts}
use Rattle.script_text.specs.declared.command.Command.{Command}
use Rattle.script_text.specs.declared.command.Command.TheVariants.{Batch, Play, Recover}
use Rattle.script_text.specs.declared.reply.Reply.{Reply}
use Rattle.script_text.specs.declared.reply.Reply.TheVariants.{Planned, NoDrill, Stopped, In, Out, Failed}
use Rattle.script_text.specs.declared.reply.FailedEnd.TheVariants as ends
use Rattle.script_text.specs.Drills.{drill_of}
use Rattle.script_text.specs.Replies.{text_of, closes, blames_device}
use Rattle.lab_core.specs.Recovery.{Opens, OpensInPart, Reads, SettlesFirst, reading as in_reading, settling as in_settling, shifting as in_shifting}
use Rattle.lab_core.specs.Commands.{LabStep, is_about}
use Rattle.cost_rule.specs.declared.rule.RuleNumber.{RuleNumber}
use Rattle.lab_core.specs.Compaction.{IsPackedAt, IsPlaced, IsToMove, packed_length}
use Rattle.lab_core.specs.Moments.{IsFoundAt, IsNoJournal, IsLabAt, IsLabOfImage, AllStandFor, StandForLab, IsLengthAt, IsLiveAt, IsLengthAfter, with_more}
use Rattle.lab_core.specs.Breaks.{Breaks}
use Rattle.lab_core.specs.Opening.{IsJournal, MakesFirst, has_change}
use Rattle.lab_core.specs.Said.{IsAsSaid}
use Rattle.lab_core.specs.Tells.{BeginsAt, is_in, opens_of, TellsBroken}
use Rattle.lab_core.specs.Lists.{Ground, Past}
use Rattle.lab_core.specs.PlayList.{JudgedPlay, events_in_turn}
use Rattle.lab_tasks.specs.Playing.{Playing}
use Rattle.lab_judge.specs.Serving.{JudgedBatch, Serving}
use Rattle.lab_core.specs.BatchList.{runs_in_turn}
use Rattle.lab_core.specs.Sessions.{OpenSwap, Session, Closed, Open, AreOpenedBy, blames_now, counted_from, names_of, open_at, Terms}
use Rattle.lab_tasks.specs.OpenNames.{name_of}

-- A PIECE: a command, the counts of faults at its mark, the session before and after it, the steps of its opening and its own, and its reply, if it was
-- answered
pub record Piece : Type 0 where
  pub command : Command
  pub faults : Faults
  pub from : Session
  pub to : Session
  pub opening : List Event
  pub own : List Event
  pub reply : Option Reply

abbrev pub steps_of : Piece → List Event
steps_of piece = piece.opening ++ piece.own

-- A COMMAND THAT WAS BEGUN: its piece, whether the failure that a drill asks for was planned, and the counts of faults after it
pub record Begun : Type 0 where
  pub piece : Piece
  pub planned : Bool
  pub later : Faults

abbrev pub commands_of : List Begun → List Command
commands_of begun = map (λ b. b.piece.command) begun

-- the trace after them
abbrev pub trace_after : List Event → List Begun → List Event
trace_after trace [] = trace
trace_after trace (b ∷ begun) = trace_after (trace ++ steps_of b.piece) begun

-- and where it is told
abbrev pub traces_after : Option (List Event) → List Begun → Option (List Event)
traces_after trace [] = trace
traces_after trace (b ∷ begun) = traces_after (with_more trace (steps_of b.piece)) begun

-- the drill that it planned
abbrev pub planned_of : Begun → Option Drill
planned_of b = if b.planned then drill_of b.piece.command else None

abbrev pub with_drill_if : Option Told → Option Drill → Option Told
with_drill_if told None = told
with_drill_if told (Some drill) = with_drill told drill

-- what the plant tells after them: of each the moment is marked, then its steps are made, and then its drill is taken
abbrev pub with_piece : Option Told → Begun → Option Told
with_piece told b = with_drill_if (with_steps (with_mark told b.piece.faults) (steps_of b.piece)) (planned_of b)

abbrev pub with_pieces : Option Told → List Begun → Option Told
with_pieces told [] = told
with_pieces told (b ∷ begun) = with_pieces (with_piece told b) begun

-- THE CAUSES OF REPLIES

-- counts that never fall
pub record Later (before now : Faults) : Type 0 where
  pub disk : before.disk ≤ now.disk
  pub devices : before.devices ≤ now.devices

abbrev pub closes_if : Option Reply → Bool
closes_if None = false
closes_if (Some reply) = closes reply

abbrev pub blames_if : Option Reply → Bool
blames_if None = false
blames_if (Some reply) = blames_device reply

abbrev pub blames_now_if : Option Reply → Bool
blames_now_if None = false
blames_now_if (Some reply) = blames_now reply

-- the session stays open only after a reply that neither closes it nor is `stopped`, and is closed only after one that is so, or where there is none
abbrev pub stays_open : Option Reply → Bool
stays_open None = false
stays_open (Some Stopped) = false
stays_open (Some reply) = not (closes reply)

abbrev pub may_shut : Option Reply → Bool
may_shut None = true
may_shut (Some Stopped) = true
may_shut (Some reply) = closes reply

-- A DRILL IS PLANNED exactly where its reply tells it, and that only over a plant that takes drills; without a reply it may be. It has no other reply.
-- No other command plans one.
abbrev pub IsPlannedAs : Bool → Bool → Option Reply → Type 0
IsPlannedAs takes planned None = planned ≡ true → takes ≡ true
IsPlannedAs takes planned (Some Planned) = (planned ≡ true) × (takes ≡ true)
IsPlannedAs takes planned (Some NoDrill) = (planned ≡ false) × (takes ≡ false)
IsPlannedAs takes planned (Some reply) = ⊥

abbrev pub IsPlannedBy : Terms → Option Drill → Bool → Option Reply → Type 0
IsPlannedBy terms None planned reply = planned ≡ false
IsPlannedBy terms (Some drill) planned reply = IsPlannedAs terms.takes planned reply

-- a reply that closes comes only where the disk's count rose; one that blames a device only where the devices' count rose since the mark of the command
-- that opened the experiment's swap, or where none is open since that of this one; and since that of this one where it blames it for what the command
-- itself sent. Each swap that is open after the command was open before it, with its count, and the reply does not tell that it has ended; or the reply
-- tells that it has begun, of the command's own experiment, and its count is that at the mark. A drill is planned as its reply tells. After a reply that
-- closes, after `stopped`, and where there is none, the session is closed.
pub record IsCaused (terms : Terms) (b : Begun) : Type 0 where
  pub later : Later b.piece.faults b.later
  pub disk : closes_if b.piece.reply ≡ true → Rose b.piece.faults.disk b.later.disk
  pub device : blames_if b.piece.reply ≡ true → Rose (counted_from (opens_of b.piece.from) (name_of b.piece.command) b.piece.faults.devices) b.later.devices
  pub here : blames_now_if b.piece.reply ≡ true → Rose b.piece.faults.devices b.later.devices
  pub opened : AreOpenedBy (name_of b.piece.command) b.piece.reply (opens_of b.piece.from) (opens_of b.piece.to) b.piece.faults.devices
  pub planned : IsPlannedBy terms (drill_of b.piece.command) b.planned b.piece.reply
  pub shut : stays_open b.piece.reply ≡ false → b.piece.to ≡ Closed

-- THE COUNTS OF FAULTS begin with those of the entry and end with those of the exit
abbrev pub Counts : Terms → Faults → List Begun → Faults → Type 0
Counts terms entry [] exit = exit ≡ entry
Counts terms entry (b ∷ begun) exit = (b.piece.faults ≡ entry) × IsCaused terms b × Counts terms b.later begun exit

-- THE SESSION IS HANDED ON from each command to the next
abbrev pub AreHandedOn : Session → List Begun → Type 0
AreHandedOn session [] = Unit {0}
AreHandedOn session (b ∷ begun) = (b.piece.from ≡ session) × AreHandedOn b.piece.to begun

-- the session after them
abbrev pub session_after : Session → List Begun → Session
session_after session [] = session
session_after session (b ∷ begun) = session_after b.piece.to begun

-- HOW A COMMAND FINDS THE JOURNAL, over any trace

-- AFTER AN OPENING THE JOURNAL IS COMPACT, in that lab: it is at most a mebibyte long, or more than half of it is needed without the lab's past, or its
-- epoch is the last one. Where a side was live before the opening, the same one is so with the same epoch, or it was moved onto the other side, with
-- the next epoch, and has exactly the records of the lab without its past. Where both sides were blank, the one to be so or to be moved from is side A,
-- with epoch 1.
pub record IsCompact (trace opening : List Event) (mid : LabState) : Type 0 where
  pub lab : IsLabAt (trace ++ opening) mid
  pub length : ℕ
  pub length_is : IsLengthAt (trace ++ opening) length
  pub side : Side
  pub epoch : ℕ
  pub live : IsLiveAt (trace ++ opening) side epoch
  pub small : (length ≤ 1048576) ⊎ ((length < 2 * packed_length mid) ⊎ (2 ^ 64 - 1 ≤ epoch))
  pub moved : (was : Side) (old : ℕ) → IsFoundAt trace was old
      → ((side ≡ was) × (epoch ≡ old)) ⊎ ((side ≡ other_side was) × (epoch ≡ old + 1) × IsPackedAt (trace ++ opening) mid)

-- WHAT AN OPENING WRITES, cuts or sends beside its settlings: a part that reads makes a new journal alone, and that only where both sides are blank;
-- then they are so still after it, or side A is live, with epoch 1
abbrev pub MakesNew : List Event → List Event → Type 0
MakesNew trace steps = has_change steps ≡ true → MakesFirst trace steps

-- and a part that moves the journal, after those steps and in that lab, does so only where that is to move; and the side that was live stays as it was,
-- up to the start of a plant that stopped
pub record IsDue (trace front steps : List Event) (s : LabState) : Type 0 where
  pub length : ℕ
  pub side : Side
  pub epoch : ℕ
  pub placed : IsPlaced trace (trace ++ front) length side epoch
  pub to_move : IsToMove length epoch s
  pub moves : List Event
  pub behind : List Event
  pub are : steps ≡ moves ++ behind
  pub aside : disk side ((trace ++ front) ++ moves) ≡ disk side (trace ++ front)
  pub nothing : has_change behind ≡ false

abbrev pub MovesDue : List Event → List Event → List Event → LabState → Type 0
MovesDue trace front steps s = has_change steps ≡ true → IsDue trace front steps s

-- it led from that lab to another, in which the journal is compact
pub record HasLed (trace opening : List Event) (s : LabState) : Type 0 where
  pub mid : LabState
  pub opens : Opens s opening mid
  pub makes : MakesNew trace opens.reading
  pub moves : MovesDue trace (opens.reading ++ opens.moving) opens.shifting mid
  pub compact : IsCompact trace opening mid

-- it broke off, and came so far from that lab
abbrev pub WritesInPart : (trace : List Event) (s : LabState) (opening : List Event) (after : LabState) → OpensInPart s opening after → Type 0
WritesInPart trace s opening after (in_reading reads same) = MakesNew trace opening
WritesInPart trace s opening after (in_settling front steps is reads miss restart settled) = MakesNew trace front
WritesInPart trace s opening after (in_shifting front steps behind is reads miss restart outcomes all shifts) = MakesNew trace front × MovesDue trace (front ++ steps) behind after

pub record HasCome (trace opening : List Event) (s : LabState) : Type 0 where
  pub after : LabState
  pub part : OpensInPart s opening after
  pub writes : WritesInPart trace s opening after part

-- it opens the journal: no call failed or stopped, the sides are a journal, and from the lab that they stand for it led to another; or it breaks off,
-- and nothing of the command's own is done, and from the lab that the sides stand for, if they do, it came so far
pub data IsOpening (trace : List Event) (piece : Piece) : Type 0 where
  opened : has_miss piece.opening ≡ false → has_restart piece.opening ≡ false → IsJournal (disk A trace).reads (disk B trace).reads (2 ^ 32) → ((s : LabState) → IsLabAt trace s → HasLed trace piece.opening s) → IsOpening trace piece
  broken_off : Breaks piece.opening piece.reply → piece.own ≡ [] → piece.to ≡ Closed → ((s : LabState) → IsLabAt trace s → HasCome trace piece.opening s) → IsOpening trace piece

-- a drill needs no open session: it has no steps, and its reply leaves the session as it was. Every other command opens it where it is closed, and
-- writes, cuts or sends anything in that only where the sides are a journal, whatever comes of it.
abbrev pub Finds : Option Drill → Session → List Event → Piece → Type 0
Finds (Some drill) from trace piece = (piece.opening ≡ []) × (piece.own ≡ []) × (is_some piece.reply ≡ true → piece.to ≡ from)
Finds None Closed trace piece = (has_change piece.opening ≡ true → IsJournal (disk A trace).reads (disk B trace).reads (2 ^ 32)) × IsOpening trace piece
Finds None (Open opens) trace piece = piece.opening ≡ []

-- THE SIDES ARE NO JOURNAL, and the program leaves them as they are: a command that is no drill finds the session closed; both sides are synced, and
-- nothing else is done, so neither reads other than before
pub record FindsNone (trace : List Event) (piece : Piece) (side : Side) (at : ℕ) : Type 0 where
  pub no_drill : drill_of piece.command ≡ None
  pub closed : piece.from ≡ Closed
  pub no_journal : IsNoJournal (disk A trace).reads (disk B trace).reads (2 ^ 32) side at
  pub synced : piece.opening ≡ both_synced
  pub nothing : piece.own ≡ []
  pub no_reply : piece.reply ≡ None
  pub as_before : (s : Side) → (disk s (trace ++ steps_of piece)).reads ≡ (disk s trace).reads

-- THE LAB STEP of a piece between these labs: the limit is 2^32 bytes, the length is the journal's as its sides read after the opening, and the count of
-- device faults is that at the mark.
-- One that isn't answered is a lab step but for its reply, and perhaps for the start of a plant that stopped.
abbrev pub ButForReply : Option Reply → Session → Option Reply → Session → List Event → Type 0
ButForReply (Some reply) to told session behind = (told ≡ Some reply) × (session ≡ to) × (behind ≡ [])
ButForReply None to told session behind = (behind ≡ []) ⊎ ((a b : List ℕ) × (behind ≡ Restarted a b ∷ []))

pub record StepsFrom (terms : Terms) (trace : List Event) (piece : Piece) (s after : LabState) : Type 0 where
  pub length : ℕ
  pub length_is : IsLengthAt (trace ++ piece.opening) length
  pub told : Option Reply
  pub session : Session
  pub behind : List Event
  pub is_told : ButForReply piece.reply piece.to told session behind
  pub step : LabStep terms (Some trace) (record { length = length; limit = 2 ^ 32; devices = piece.faults.devices }) s piece.from piece.command piece.opening (piece.own ++ behind) (record { reply = told; lab = after; session = session })

-- the first lab is that of the moment; where the plant stopped in an opening before both sides were synced, that of an image
abbrev pub is_closed : Session → Bool
is_closed Closed = true
is_closed (Open opens) = false

abbrev pub is_early : Piece → Bool
is_early piece = is_closed piece.from && (has_restart piece.opening && not (are_synced piece.opening))

abbrev pub FirstLab : Bool → List Event → LabState → Type 0
FirstLab true trace s = IsLabOfImage trace s
FirstLab false trace s = IsLabAt trace s

-- after `stopped`, and after a reply that leaves the session open, all images stand for the last lab; after each other reply, and without one, each
-- image stands for the lab after a step from an image before it
abbrev pub leaves_one : Session → Option Reply → Bool
leaves_one (Open opens) reply = true
leaves_one Closed (Some Stopped) = true
leaves_one Closed reply = false

abbrev pub ImagesAfter : Terms → Bool → List Event → Piece → LabState → Type 0
ImagesAfter terms true trace piece last = AllStandFor (trace ++ steps_of piece) last
ImagesAfter terms false trace piece last = (a b : List ℕ) → ArePossible (trace ++ steps_of piece) a b
    → (s : LabState) × (after : LabState) × IsLabOfImage trace s × StandForLab a b after × StepsFrom terms trace piece s after

-- A PIECE IS A LAB STEP over the trace before it: the lab that it goes from, the one that it leaves, and the step between both
pub record Leads (terms : Terms) (trace : List Event) (piece : Piece) : Type 0 where
  pub first : LabState
  pub last : LabState
  pub before : FirstLab (is_early piece) trace first
  pub behind : IsLabAt (trace ++ steps_of piece) last
  pub steps : StepsFrom terms trace piece first last

-- the command opened the controller, and no call of the disk failed and the plant did not stop in that; and it was not cut short there, since it is
-- answered or did something of its own
pub record HasOpened (piece : Piece) : Type 0 where
  pub no_drill : drill_of piece.command ≡ None
  pub closed : piece.from ≡ Closed
  pub no_miss : has_miss piece.opening ≡ false
  pub no_restart : has_restart piece.opening ≡ false
  pub went_on : (is_some piece.reply ≡ true) ⊎ (piece.own ≡ [] → ⊥)

-- after its opening, which led there, all images stand for that lab
pub record OpensTo (trace : List Event) (piece : Piece) (s mid : LabState) : Type 0 where
  pub opens : Opens s piece.opening mid
  pub images : AllStandFor (trace ++ piece.opening) mid
  pub sound : IsSound the_texts (trace ++ piece.opening)

-- over a sound trace it is one, whatever its reply, and without one; each image stands for such a lab, and the trace stays sound
pub record IsDone (terms : Terms) (trace : List Event) (piece : Piece) : Type 0 where
  pub leads : Leads terms trace piece
  pub opened : HasOpened piece → (mid : LabState) × OpensTo trace piece leads.first mid
  pub images : ImagesAfter terms (leaves_one piece.to piece.reply) trace piece leads.last
  pub sound : IsSound the_texts (trace ++ steps_of piece)

-- OVER ANY TRACE a piece finds the journal so; where the sides stand for a lab, and no call of its opening failed or stopped, one that is answered is a
-- lab step from there; and where it leaves the session open, the sides stand for the lab that it leads to
pub record IsPiece (terms : Terms) (trace : List Event) (piece : Piece) : Type 0 where
  pub readable : ArePossible trace (disk A trace).reads (disk B trace).reads
  pub finds : Finds (drill_of piece.command) piece.from trace piece
  pub leaves : stays_open piece.reply ≡ false → piece.to ≡ Closed
  pub shuts : drill_of piece.command ≡ None → is_closed piece.to ≡ true → may_shut piece.reply ≡ true
  pub steps : drill_of piece.command ≡ None → is_some piece.reply ≡ true → has_miss piece.opening ≡ false → has_restart piece.opening ≡ false
      → (s : LabState) → IsLabAt trace s → (after : LabState) × StepsFrom terms trace piece s after
  pub leads : drill_of piece.command ≡ None → is_closed piece.to ≡ false → Leads terms trace piece
  pub done : IsSound the_texts trace → IsDone terms trace piece

-- WITHOUT A REPLY, over a plant that is not stopped, memory was wanting: for the text of a reply alone, with which it is a piece; or before anything was
-- done but reading; or in the settling of its opening, between two experiments; or after the opening, before anything of its own was done, or in
-- `recover` between two experiments; or in `play` between two events or in `batch` between two runs, after the first of them. No swap and no settling of
-- an experiment is ended by it.
abbrev pub ListsFirst : RuleNumber → Command → List Event → Ground → LabState → List OpenSwap → List Event → Type 0
ListsFirst rule (Play exp from until lines text) trace base s opens own =
    (start at : Playing) × JudgedPlay s opens exp from until text (Ok start) × ((after : LabState) × (to : List OpenSwap) × Past (events_in_turn exp) base (Some trace) start s opens own at after to)
ListsFirst rule (Batch moment lines text) trace base s opens own =
    (start at : Serving) × JudgedBatch s text (Ok start) × ((after : LabState) × (to : List OpenSwap) × Past (runs_in_turn rule moment) base (Some trace) start s opens own at after to)
ListsFirst rule command trace base s opens own = ⊥

abbrev pub WantsAfter : RuleNumber → Command → List Event → Ground → LabState → List OpenSwap → List Event → Type 0
WantsAfter rule command trace base s opens own =
    (own ≡ []) ⊎ (((command ≡ Recover) × ((after : LabState) × SettlesFirst s (names_of opens) own after)) ⊎ ListsFirst rule command trace base s opens own)

pub data WantsOnly (terms : Terms) (trace : List Event) (piece : Piece) : Type 0 where
  text : (reply : Reply) (to : Session) → IsPiece terms trace (record piece { to = to; reply = Some reply }) → WantsOnly terms trace piece
  reading : Reads piece.opening → piece.own ≡ [] → WantsOnly terms trace piece
  settling : (s after : LabState) (front moving : List Event) → IsLabAt trace s → piece.opening ≡ front ++ moving → Reads front → has_miss front ≡ false → has_restart front ≡ false → SettlesFirst s [] moving after
      → piece.own ≡ [] → WantsOnly terms trace piece
  behind : (s mid : LabState) (length : ℕ) → IsLabAt trace s → BeginsAt piece.from s piece.opening mid → IsLengthAt (trace ++ piece.opening) length
      → WantsAfter terms.rule piece.command (trace ++ piece.opening) (record { length = length; limit = 2 ^ 32; devices = piece.faults.devices }) mid (opens_of piece.from) piece.own
      → WantsOnly terms trace piece

-- each image that is possible stands for a lab in which the experiment is so
abbrev pub AllHave : List Event → Experiment → Type 0
AllHave trace e = (a b : List ℕ) → ArePossible trace a b → (u : LabState) × StandForLab a b u × (find e.name u.experiments ≡ Some e)

-- ALL ARE AT REST but the busy ones: each image that is possible stands for a lab in which no other experiment moves, and the world is as it says
pub record IsAtRestBut (busy : List (List ℕ)) (w : World) (u : LabState) : Type 0 where
  pub rest : (e : Experiment) → Has u.experiments e → is_moving e ≡ true → is_busy busy e.name ≡ true
  pub as_said : IsAsSaid w u

abbrev pub AllRestBut : List (List ℕ) → List Event → Type 0
AllRestBut busy trace = (a b : List ℕ) → ArePossible trace a b → (u : LabState) × StandForLab a b u × IsAtRestBut busy (world_of trace) u

-- none of the commands is about the experiment of that name
abbrev pub AreOthers : List ℕ → List Begun → Type 0
AreOthers name [] = Unit {0}
AreOthers name (b ∷ begun) = (is_about b.piece.command name ≡ false) × AreOthers name begun

-- each leaves the session open
abbrev pub StayOpen : List Begun → Type 0
StayOpen [] = Unit {0}
StayOpen (b ∷ begun) = (is_closed b.piece.to ≡ false) × StayOpen begun

-- each leaves the swap of that experiment open
abbrev pub AreOn : List ℕ → List Begun → Type 0
AreOn exp [] = Unit {0}
AreOn exp (b ∷ begun) = (is_some (open_at exp (opens_of b.piece.to)) ≡ true) × AreOn exp begun

-- WHERE A REPLY TELLS THAT AN EXPERIMENT IS, in or out, there it is in each possible image after later commands that are about others; and it is the same
-- in all of them
pub record AreAll (is : Phase → Bool) (trace : List Event) (exp : List ℕ) : Type 0 where
  pub experiment : Experiment
  pub named : experiment.name ≡ exp
  pub is_so : is experiment.phase ≡ true
  pub all : AllHave trace experiment

-- an experiment of that name is so in each possible image of the trace; and after later commands that are about others, too, if it doesn't move
pub record AreAllAs (exp : List ℕ) (trace : List Event) (later : List Begun) (e : Experiment) : Type 0 where
  pub named : e.name ≡ exp
  pub at_once : AllHave trace e
  pub on : is_moving e ≡ false → AreOthers exp later → AllHave (trace_after trace later) e

abbrev pub TellsAll : Reply → List Begun → List Event → Type 0
TellsAll (In exp) later trace = AreOthers exp later → AreAll is_in trace exp
TellsAll (Out exp) later trace = AreOthers exp later → AreAll is_out trace exp
TellsAll (Failed exp ends.In what) later trace = AreOthers exp later → AreAll is_in trace exp
TellsAll (Failed exp ends.Out what) later trace = AreOthers exp later → AreAll is_out trace exp
TellsAll reply later trace = Unit {0}

-- pieces one after another
abbrev pub ArePieces : Terms → List Event → List Begun → Type 0
ArePieces terms trace [] = Unit {0}
ArePieces terms trace (b ∷ begun) = IsPiece terms trace b.piece × ArePieces terms (trace ++ steps_of b.piece) begun

-- OVER EVERY PLANT, whether it tells its past or not

-- WHERE A COMMAND'S OWN PART BEGINS: the lab of the controller, and the length of its journal
pub record Held : Type 0 where
  pub lab : LabState
  pub length : ℕ

-- A COMMAND'S OWN PART IS A LAB STEP of an open session, from the lab at which it begins to the one after it: by the length that the journal has there,
-- which is within its limit, and where the trace is told up to this part, that of the sides there. One that isn't answered is such a step but for its
-- reply.
pub record OwnStep (terms : Terms) (trace : Option (List Event)) (piece : Piece) (at : Held) (after : LabState) : Type 0 where
  pub sane : Sane at.lab
  pub length_is : IsLengthAfter trace [] (2 ^ 32) at.length
  pub told : Option Reply
  pub session : Session
  pub behind : List Event
  pub is_told : ButForReply piece.reply piece.to told session behind
  pub step : LabStep terms trace (record { length = at.length; limit = 2 ^ 32; devices = piece.faults.devices }) at.lab (Open (opens_of piece.from)) piece.command [] (piece.own ++ behind) (record { reply = told; lab = after; session = session })

-- its opening broke off, and nothing of its own was done
pub record NotOpened (piece : Piece) : Type 0 where
  pub closed : piece.from ≡ Closed
  pub nothing : piece.own ≡ []
  pub shut : piece.to ≡ Closed
  pub tells : IfSome piece.reply TellsBroken

-- WHAT A COMMAND DOES of its own, from one lab to another; a drill leaves the lab, and the session where it is answered
abbrev pub GoesFrom : Option Drill → Terms → Option (List Event) → Piece → Held → LabState → Type 0
GoesFrom (Some drill) terms trace piece at after = (after ≡ at.lab) × (is_some piece.reply ≡ true → piece.to ≡ piece.from)
GoesFrom None terms trace piece at after = OwnStep terms trace piece at after ⊎ NotOpened piece

-- after it: that lab, and a journal that is longer by the records that it appended
abbrev pub held_after : Piece → Held → LabState → Held
held_after piece at after = record { lab = after; length = at.length + appended piece.own }

-- THE LAB OF THE SESSION AND THE LENGTH OF ITS JOURNAL ARE HANDED ON, to the last: a command that finds the session open begins at those that the one
-- before it left; one that opens it begins at those to which its opening led
abbrev pub HandLabsOn : Terms → Option (List Event) → Held → List Begun → Held → Type 0
HandLabsOn terms trace held [] last = last ≡ held
HandLabsOn terms trace held (b ∷ begun) last =
    (at : Held) × (after : LabState) × (is_closed b.piece.from ≡ false → at ≡ held) × GoesFrom (drill_of b.piece.command) terms (with_more trace b.piece.opening) b.piece at after
    × HandLabsOn terms (with_more trace (steps_of b.piece)) (held_after b.piece at after) begun last

-- AMONG LABS THAT ARE HANDED ON, that from which the command after these goes in its own part, with the length, and the lab to which it leads
abbrev pub held_from : (terms : Terms) (trace : Option (List Event)) (held last : Held) (before after : List Begun) (b : Begun)
    → HandLabsOn terms trace held (before ++ b ∷ after) last → Held
held_from terms trace held last [] after b labs = labs.0
held_from terms trace held last (x ∷ before) after b labs = held_from terms (with_more trace (steps_of x.piece)) (held_after x.piece labs.0 labs.1) last before after b labs.4

abbrev pub lab_behind : (terms : Terms) (trace : Option (List Event)) (held last : Held) (before after : List Begun) (b : Begun)
    → HandLabsOn terms trace held (before ++ b ∷ after) last → LabState
lab_behind terms trace held last [] after b labs = labs.1
lab_behind terms trace held last (x ∷ before) after b labs = lab_behind terms (with_more trace (steps_of x.piece)) (held_after x.piece labs.0 labs.1) last before after b labs.4

-- the text of the reply, if there is one
abbrev pub text_if : Option Reply → List ℕ
text_if None = []
text_if (Some reply) = text_of reply

abbrev pub reply_text : Begun → List ℕ
reply_text b = text_if b.piece.reply

-- the replies, in order
abbrev pub reply_texts : List Begun → List ℕ
reply_texts begun = flat_map reply_text begun
