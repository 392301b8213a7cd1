-- THE LAB STEP: what one command may do, by the steps of its opening and its own.
use Rattle.std.specs.Prelude.{◌≡◌, ◌⊎◌, ◌+◌, nat_le, is_some, ℕ, Bool, true, false, List, [], ◌∷◌, ◌++◌, length, Option, Some, None, Result, Ok, Err}
use Rattle.std.specs.Option.{option_map}
use Rattle.lab_base.specs.Lists.{listed}
use Rattle.plant.specs.Events.{Event, Missed, Restarted}
use Rattle.plant.specs.declared.drill.Drill.{Drill}
use Rattle.plant.specs.declared.step.Side.{Side}
use Rattle.journal_rec.specs.declared.record.Record.{Record}
use Rattle.journal_rec.specs.declared.record.Record.TheVariants.{Begin}
use Rattle.journal_model.specs.Appends.{Run, All, added}
use Rattle.journal_model.specs.Journals.{size}
use Rattle.records_model.specs.Labs.{LabState, Move, Says, moved}
use Rattle.lab_state.specs.Texts.{the_texts}
use Rattle.script_text.specs.Drills.{drill_of}
use Rattle.script_text.specs.declared.command.Command.{Command}
use Rattle.script_text.specs.declared.reply.Reply.{Reply}
use Rattle.script_text.specs.declared.reply.Reply.TheVariants.{In, Out, More as MoreReply, Trouble, Failed, FullJournal, Planned, NoDrill, Stopped as StoppedReply}
use Rattle.script_text.specs.declared.reply.FailedEnd.{FailedEnd}
use Rattle.script_text.specs.declared.reply.FailedEnd.TheVariants as ends
use Rattle.lab_base.specs.declared.what.What.TheVariants as whats
use Rattle.virt_topo.specs.declared.mapping.Mapped.{Mapped}
use Rattle.swap_txn.specs.Troubles.{what_of}
use Rattle.swap_turns.specs.Swaps.{Swap as SwapOf, Moves}
use Rattle.swap_turns.specs.Legs.{Forth, Undo}
use Rattle.swap_turns.specs.Beginning.{opened as opened_swap}
use Rattle.swap_turns.specs.Finishing.{Finishes}
use Rattle.swap_turns.specs.Records.{IsWhole, IsBroken}
use Rattle.swap_turns.specs.Records as records
use Rattle.swap_turns.specs.Turning.{Outcome, More, TurnsBack, Ended, Stuck, Unwritten, Stopped as Halted, TurnSteps, open_after}
use Rattle.swap_turns.specs.Whole.{SwapSteps}
use Rattle.cost_rule.specs.declared.rule.RuleNumber.{RuleNumber}
use Rattle.lab_core.specs.Sessions.{OpenSwap, Session, Closed, Open, Terms, Setting, After, name_in, names_of}
use Rattle.lab_tasks.specs.OpenNames.{is_among, name_of}
use Rattle.lab_core.specs.Breaks.{Breaks, StartsAfter}
use Rattle.lab_tasks.specs.Tasks.{Task, Tell, Append, Swap, BeginOnly, Turn, Finish, Recover}
use Rattle.lab_judge.specs.Judge.{Judged}
use Rattle.lab_core.specs.Recovery.{Opens, BreaksOpening, Recovers}

-- THE COMMAND'S OWN STEPS, over an open controller with those open swaps

-- the command does nothing, with that reply
pub record Replies (s : LabState) (opens : List OpenSwap) (reply : Reply) (own : List Event) (after : After) : Type 0 where
  pub nothing : own ≡ []
  pub after_is : after ≡ record { reply = Some reply; lab = s; session = Open opens }

-- memory is wanting before anything is done
pub record WantsMemory (s : LabState) (own : List Event) (after : After) : Type 0 where
  pub nothing : own ≡ []
  pub after_is : after ≡ record { reply = None; lab = s; session = Closed }

-- what stands after a part of an append: nothing, a call that failed, or the start of a stopped plant
pub data Behind (side : Side) (more : List Event) : Type 0 where
  nothing : more ≡ [] → Behind side more
  missed : more ≡ Missed side ∷ [] → Behind side more
  restarted : (a b : List ℕ) → more ≡ Restarted a b ∷ [] → Behind side more

-- the append is whole, and its reply is told; or the part breaks off, with the lab before the record or after it
pub data AppendEnds (s : LabState) (opens : List OpenSwap) (state : LabState) (told : Reply) (run : Run) (more own : List Event) (after : After) : Type 0 where
  whole : run ≡ All → more ≡ [] → after ≡ record { reply = Some told; lab = state; session = Open opens } → AppendEnds s opens state told run more own after
  broken : Breaks own after.reply → is_some after.reply ≡ true → (after.lab ≡ s) ⊎ (after.lab ≡ state) → after.session ≡ Closed → AppendEnds s opens state told run more own after

-- one append of a record, which says a move of the lab, and no other step
pub record Appends (s : LabState) (opens : List OpenSwap) (entry : Record) (told : Reply) (own : List Event) (after : After) : Type 0 where
  pub side : Side
  pub gate : ℕ
  pub run : Run
  pub more : List Event
  pub steps : own ≡ added side gate entry run ++ more
  pub behind : Behind side more
  pub move : Move
  pub says : Says the_texts s entry move
  pub state : LabState
  pub moves : moved s move ≡ Some state
  pub ends : AppendEnds s opens state told run more own after

-- `in E` after a swap-in and a change, and `out E` after a swap-out
abbrev pub done_reply : List ℕ → Option Mapped → Reply
done_reply exp None = Out exp
done_reply exp (Some m) = In exp

-- where it is again after the undo: out after that of a swap-in, and in after that of a change
abbrev pub undone_end : Option Mapped → FailedEnd
undone_end None = ends.Out
undone_end (Some m) = ends.In

-- THE REPLY TO A SWAP that is over, by its outcome; and to one that isn't
abbrev pub end_reply : SwapOf → Outcome → Option Reply
end_reply p (Ended Forth) = Some (done_reply p.name p.new)
end_reply p (Ended (Undo why)) = Some (Failed p.name (undone_end p.old) (what_of why))
end_reply p (Stuck trouble) = Some (Failed p.name ends.Stuck (what_of trouble))
end_reply p Unwritten = Some (Failed p.name ends.Stuck whats.Journal)
end_reply p Halted = Some StoppedReply
end_reply p outcome = None

abbrev pub turn_reply : SwapOf → Outcome → Option Reply
turn_reply p More = Some (MoreReply p.name)
turn_reply p (TurnsBack why) = Some (Trouble p.name (what_of why))
turn_reply p outcome = end_reply p outcome

-- the controller stays open, with those open swaps, but where a call of the journal failed or the plant stopped
abbrev pub end_session : List OpenSwap → Outcome → Session
end_session opens Unwritten = Closed
end_session opens Halted = Closed
end_session opens outcome = Open opens

-- the reply is told
pub data IsAnswered (reply : Option Reply) (opens : List OpenSwap) (outcome : Outcome) (behind : List Event) (after : After) : Type 0 where
  is_told : StartsAfter outcome behind → after.reply ≡ reply → after.session ≡ end_session opens outcome → IsAnswered reply opens outcome behind after

-- A SWAP: a record that says a move, by which the experiment moves so; the commands of that course and of its undo; and the record that ends
-- it, as far as it came
pub record Swaps (s : LabState) (opens : List OpenSwap) (exp : List ℕ) (entry : Record) (own : List Event) (after : After) : Type 0 where
  pub swap : SwapOf
  pub name : swap.name ≡ exp
  pub move : Move
  pub says : Says the_texts s entry move
  pub moves : (state : LabState) → moved s move ≡ Some state → Moves swap state
  pub outcome : Outcome
  pub steps : List Event
  pub behind : List Event
  pub own_is : own ≡ steps ++ behind
  pub ends : SwapSteps swap s entry move steps after.lab outcome
  pub answered : IsAnswered (end_reply swap outcome) opens outcome behind after

-- the append of that record alone
abbrev pub BeginSteps : LabState → Record → Move → List Event → LabState → Outcome → Type 0
BeginSteps s entry move steps after More = IsWhole s entry move steps after
BeginSteps s entry move steps after Unwritten = IsBroken records.missed s entry move steps after
BeginSteps s entry move steps after Halted = IsBroken records.nothing s entry move steps after
BeginSteps s entry move steps after outcome = ⊥

-- A SWAP IS ONLY BEGUN: it is open afterwards, after the others, and nothing of it was sent
abbrev pub begun_at : SwapOf → ℕ → OpenSwap
begun_at p devices = record { running = opened_swap p; devices = devices }

pub record Begins (s : LabState) (opens : List OpenSwap) (devices : ℕ) (exp : List ℕ) (entry : Record) (own : List Event) (after : After) : Type 0 where
  pub swap : SwapOf
  pub name : swap.name ≡ exp
  pub move : Move
  pub says : Says the_texts s entry move
  pub moves : (state : LabState) → moved s move ≡ Some state → Moves swap state
  pub outcome : Outcome
  pub steps : List Event
  pub behind : List Event
  pub own_is : own ≡ steps ++ behind
  pub begins : BeginSteps s entry move steps after.lab outcome
  pub answered : IsAnswered (turn_reply swap outcome) (opens ++ begun_at swap devices ∷ []) outcome behind after

-- one of the open swaps, of that experiment, among the others
pub record IsOneOf (opens : List OpenSwap) (exp : List ℕ) : Type 0 where
  pub front : List OpenSwap
  pub swap : OpenSwap
  pub rest : List OpenSwap
  pub are : opens ≡ front ++ swap ∷ rest
  pub name : name_in swap ≡ exp

-- as it is open after a turn, if it is
abbrev pub turned_on : OpenSwap → List Event → Outcome → List OpenSwap
turned_on o steps outcome = listed (option_map (λ running. record o { running = running }) (open_after o.running steps outcome))

-- A TURN of one of the open swaps, whose experiment moves so: one device command and no byte of the journal, or its last record and no device
-- command. It stands in its place while it is open, and each other is as it was.
pub record Turns (s : LabState) (opens : List OpenSwap) (exp : List ℕ) (own : List Event) (after : After) : Type 0 where
  pub one : IsOneOf opens exp
  pub moves : Moves one.swap.running.swap s
  pub outcome : Outcome
  pub steps : List Event
  pub behind : List Event
  pub own_is : own ≡ steps ++ behind
  pub turn : TurnSteps s one.swap.running steps outcome after.lab
  pub answered : IsAnswered (turn_reply one.swap.running.swap outcome) (one.front ++ (turned_on one.swap steps outcome ++ one.rest)) outcome behind after

-- ONE OF THEM IS TURNED TO ITS END, with no other between
pub record EndsSwap (s : LabState) (opens : List OpenSwap) (exp : List ℕ) (own : List Event) (after : After) : Type 0 where
  pub one : IsOneOf opens exp
  pub moves : Moves one.swap.running.swap s
  pub outcome : Outcome
  pub steps : List Event
  pub behind : List Event
  pub own_is : own ≡ steps ++ behind
  pub finishes : Finishes s one.swap.running steps outcome after.lab
  pub answered : IsAnswered (end_reply one.swap.running.swap outcome) (one.front ++ one.rest) outcome behind after

-- `full journal LENGTH` exactly where the length, the record's size and 10,240 bytes for the last records of moves are above the limit
abbrev pub has_space : Setting → Record → Bool
has_space set entry = nat_le (set.length + size entry + 10240) set.limit

-- where there is space for the first record of a task, the task is done; else the journal is full. A task `recover` has none.
abbrev pub IfSpace : Bool → ℕ → LabState → List OpenSwap → Type 0 → List Event → After → Type 0
IfSpace true length s opens Done own after = Done
IfSpace false length s opens Done own after = Replies s opens (FullJournal length) own after

-- A TASK IS DONE
abbrev pub Performs : Setting → LabState → List OpenSwap → Task → List Event → After → Type 0
Performs set s opens (Tell told) own after = Replies s opens told own after
Performs set s opens (Append entry told) own after = IfSpace (has_space set entry) set.length s opens (Appends s opens entry told own after) own after
Performs set s opens Recover own after = Recovers s opens own after
Performs set s opens (Swap exp way) own after = IfSpace (has_space set (Begin exp way)) set.length s opens (Swaps s opens exp (Begin exp way) own after) own after
Performs set s opens (BeginOnly exp way) own after = IfSpace (has_space set (Begin exp way)) set.length s opens (Begins s opens set.devices exp (Begin exp way) own after) own after
Performs set s opens (Turn exp) own after = Turns s opens exp own after
Performs set s opens (Finish exp) own after = EndsSwap s opens exp own after

-- THE JUDGEMENT IS DONE: the refusal is told, or the task is done
abbrev pub Does : Setting → LabState → List OpenSwap → Result Task Reply → List Event → After → Type 0
Does set s opens (Err refusal) own after = Replies s opens refusal own after
Does set s opens (Ok task) own after = Performs set s opens task own after

-- what was judged is done, or memory is wanting
pub data IsDoneBy (IsJudged : Result Task Reply → Type 0) (set : Setting) (s : LabState) (opens : List OpenSwap) (own : List Event) (after : After) : Type 0 where
  does : (judgement : Result Task Reply) → IsJudged judgement → Does set s opens judgement own after → IsDoneBy IsJudged set s opens own after
  no_memory : WantsMemory s own after → IsDoneBy IsJudged set s opens own after

-- what is done from the lab to which the opening led
pub data FromClosed (Does : LabState → List Event → After → Type 0) (s : LabState) (opening own : List Event) (after : After) : Type 0 where
  opened : (mid : LabState) → Opens s opening mid → Does mid own after → FromClosed Does s opening own after
  not_opened : BreaksOpening s opening own after → FromClosed Does s opening own after

-- A DRILL has no steps, and all stays as it was: it is planned where the plant takes drills, and else refused. Or memory is wanting.
pub data Drills (takes : Bool) (s : LabState) (session : Session) (own : List Event) (after : After) : Type 0 where
  is_planned : takes ≡ true → own ≡ [] → after ≡ record { reply = Some Planned; lab = s; session = session } → Drills takes s session own after
  is_refused : takes ≡ false → own ≡ [] → after ≡ record { reply = Some NoDrill; lab = s; session = session } → Drills takes s session own after
  wants_memory : WantsMemory s own after → Drills takes s session own after

-- a drill needs no open controller; every other command opens it where it is closed, and finds no open swap then
abbrev pub StepOf : Option Drill → (List OpenSwap → LabState → List Event → After → Type 0) → Terms → LabState → Session → List Event → List Event → After → Type 0
StepOf (Some drill) Does terms s session opening own after = (opening ≡ []) × Drills terms.takes s session own after
StepOf None Does terms s Closed opening own after = FromClosed (Does []) s opening own after
StepOf None Does terms s (Open opens) opening own after = (opening ≡ []) × Does opens s own after

-- what is judged of a command by that cost rule, beside these open swaps
abbrev pub JudgedBeside : RuleNumber → Command → List OpenSwap → LabState → Result Task Reply → Type 0
JudgedBeside rule command opens s = Judged rule s (is_among (names_of opens) (name_of command)) (length opens) command

-- a judgement by these is done
abbrev pub DoesBy : (List OpenSwap → LabState → Result Task Reply → Type 0) → Setting → List OpenSwap → LabState → List Event → After → Type 0
DoesBy Judges set opens s own after = IsDoneBy (Judges opens s) set s opens own after

-- the lab step by one judgement of the command
abbrev pub IsThis : Result Task Reply → RuleNumber → Command → List OpenSwap → LabState → Result Task Reply → Type 0
IsThis judgement rule command opens s other = (other ≡ judgement) × JudgedBeside rule command opens s other

abbrev pub LabStepBy : Result Task Reply → Terms → Setting → LabState → Session → Command → List Event → List Event → After → Type 0
LabStepBy judgement terms set s session command opening own after = StepOf (drill_of command) (DoesBy (IsThis judgement terms.rule command) set) terms s session opening own after
