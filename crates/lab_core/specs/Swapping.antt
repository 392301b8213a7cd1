-- A swap: how it begins, is turned, and is told.
use Rattle.std.specs.Prelude.{◌≡◌, ℕ, Bool, true, false, List, [], ◌∷◌, ◌++◌, Option, Some, None, Result, Ok, Err, IsTrue}
use Rattle.plant.specs.Seen.{Seen}
use Rattle.journal_rec.specs.Payloads.{IsBody}
use Rattle.journal_rec.specs.declared.record.Record.{Record}
use Rattle.journal_rec.specs.declared.record.Record.TheVariants.{Begin}
use Rattle.journal_rec.specs.declared.record.Way.{Way}
use Rattle.journal_disk.specs.declared.journal.Journal.{Journal}
use Rattle.lab_base.specs.declared.what.What.{What}
use Rattle.records_model.specs.Labs.{LabState, Move, Says, moved, lab_in}
use Rattle.lab_state.specs.Texts.{the_texts}
use Rattle.swap_txn.specs.States.{Plans}
use Rattle.swap_txn.specs.declared.live.Live.{Live}
use Rattle.swap_turns.specs.Beginning.{BeginsOf, HasBegun, IsPlanOf, MayBegin}
use Rattle.swap_turns.specs.Finishing.{Finishes}
use Rattle.swap_turns.specs.Running.{OpenSwap as RunningSwap, Working}
use Rattle.swap_turns.specs.Swaps.{Swap as SwapOf, Moves}
use Rattle.swap_turns.specs.Turning.{IfGoesOn, TurnSteps}
use Rattle.swap_mgr.specs.Managing.{HasTurned, HasTurnedToEnd}
use Rattle.swap_mgr.specs.declared.progress.NotOpened.{NotOpened}
use Rattle.swap_mgr.specs.declared.progress.NotOpened.TheVariants as unopened
use Rattle.swap_turns.specs.declared.progress.Progress.{Progress}
use Rattle.swap_turns.specs.declared.progress.Progress.TheVariants as progress
use Rattle.script_text.specs.declared.reply.FailedEnd.{FailedEnd}
use Rattle.script_text.specs.declared.reply.FailedEnd.TheVariants as ends
use Rattle.script_text.specs.declared.reply.Reply.{Reply}
use Rattle.script_text.specs.declared.reply.Reply.TheVariants.{In, Out, More, Trouble, Failed, FullJournal}
use Rattle.lab_core.specs.declared.fault.CoreFault.{CoreFault}
use Rattle.lab_core.specs.declared.fault.CoreFault.TheVariants as faults
use Rattle.lab_core.specs.Controller.{Control, WorksWith}
use Rattle.lab_tasks.specs.Tasks.{Task, Swap, Tell}
use Rattle.lab_tasks.specs.Mappings.{begun_as}
use Rattle.lab_judge.specs.Judge.{Is}
use Rattle.lab_core.specs.LabSteps.{begun_at, has_space}
use Rattle.lab_core.specs.Obey.{Obeyed, start_of}
use Rattle.lab_core.specs.Sessions.{OpenSwap}

-- A SWAP THAT CAN BEGIN, planned: its Begin can follow and has space, and leads to the lab in which the experiment moves
pub record IsPlanned (s u : LabState) (j : Journal) (plans : Plans) (p : SwapOf) (begin : Record) (move : Move) : Type 0 where
  pub may : MayBegin the_texts s u begin move j
  pub begins : BeginsOf p.name move
  pub moves : Moves p u
  pub plan : IsPlanOf p (lab_in u.lab) plans.forth
  pub body : IsBody plans.begin begin

-- WHY A SWAP IS NOT OPENED that has none open and room: its Begin was not written, or the plant stopped
abbrev pub HasTried : NotOpened → Type 0
HasTried (unopened.Busy exp) = ⊥
HasTried (unopened.TooManyOpen most) = ⊥
HasTried fault = Unit {0}

-- A TURN WAS MADE, or an open swap turned to its end: and where the controller goes on, its lab is that of the steps
pub record HasTurnedIn (s : LabState) (pairs : List (RunningSwap × Live)) (exp : List ℕ) (was now : Seen) (j k : Journal) (told : Progress) (new : List Live) (after : LabState) : Type 0 where
  pub turn : HasTurned the_texts s pairs exp was now j k told new
  pub goes : IfGoesOn turn.outcome (TurnSteps s turn.swap turn.steps turn.outcome after × Working the_texts now.told k after (turn.before ++ (turn.next ++ turn.behind)))

pub record HasEndedIn (s : LabState) (pairs : List (RunningSwap × Live)) (exp : List ℕ) (was now : Seen) (j k : Journal) (told : Progress) (new : List Live) (after : LabState) : Type 0 where
  pub end : HasTurnedToEnd the_texts s pairs exp was now j k told new
  pub goes : IfGoesOn end.finished.outcome (Finishes s end.swap end.finished.steps end.finished.outcome after × Working the_texts now.told k after (end.before ++ end.behind))

-- A SWAP WAS BEGUN, which is open then since that count
pub record IsOpened (devices : ℕ) (before now : Seen) (old new : Control) (opens : List OpenSwap) (exp : List ℕ) (way : Way) : Type 0 where
  pub swap : SwapOf
  pub name : swap.name ≡ exp
  pub move : Move
  pub says : Says the_texts old.lab (Begin exp way) move
  pub moves : (state : LabState) → moved old.lab move ≡ Some state → Moves swap state
  pub space : has_space (start_of devices old opens).set (Begin exp way) ≡ true
  pub state : Live
  pub begun : HasBegun the_texts swap old.lab new.lab (Begin exp way) move before now old.journal new.journal state
  pub works : WorksWith now new (opens ++ begun_at swap devices ∷ [])
  pub runs : IsTrue now.stopped → ⊥

-- it was begun, or what is told is all that the command does, whether it only begins the swap or not
abbrev pub IsBegunBy : ℕ → Seen → Seen → Control → Control → List OpenSwap → List ℕ → Way → Result (Option Reply) CoreFault → Type 0
IsBegunBy devices before now old new opens exp way (Ok None) = IsOpened devices before now old new opens exp way
IsBegunBy devices before now old new opens exp way (Ok (Some reply)) = (only : Bool) → Obeyed devices before now (Is (Ok (begun_as only (Swap exp way)))) old new opens (Some exp) (Ok reply)
IsBegunBy devices before now old new opens exp way (Err fault) = (only : Bool) → Obeyed devices before now (Is (Ok (begun_as only (Swap exp way)))) old new opens (Some exp) (Err fault)

-- WHAT IS TOLD of a swap that is over: where the experiment is, or the trouble that began the undo
abbrev pub reply_of_done : List ℕ → Bool → Reply
reply_of_done exp true = In exp
reply_of_done exp false = Out exp

abbrev pub undone_by : Bool → FailedEnd
undone_by true = ends.In
undone_by false = ends.Out

abbrev pub reply_of_over : List ℕ → Bool → Option What → Reply
reply_of_over exp inside None = reply_of_done exp inside
reply_of_over exp inside (Some what) = Failed exp (undone_by inside) what

-- WHAT A WHOLE SWAP TELLS: where the experiment is, or that there is no space for it; what only tells tells that
abbrev pub IsSwapReply : List ℕ → Reply → Type 0
IsSwapReply exp (In name) = name ≡ exp
IsSwapReply exp (Out name) = name ≡ exp
IsSwapReply exp (Failed name end what) = name ≡ exp
IsSwapReply exp (FullJournal length) = Unit {0}
IsSwapReply exp reply = ⊥

abbrev pub TellsTask : Task → Reply → Type 0
TellsTask (Tell told) reply = reply ≡ told
TellsTask (Swap exp way) reply = IsSwapReply exp reply
TellsTask task reply = Unit {0}

-- of a turn
abbrev pub progress_answer : List ℕ → Progress → Result Reply CoreFault
progress_answer exp progress.More = Ok (More exp)
progress_answer exp (progress.Trouble what) = Ok (Trouble exp what)
progress_answer exp (progress.Ended over) = Ok (reply_of_over exp over.inside over.why)
progress_answer exp (progress.Stuck what) = Ok (Failed exp ends.Stuck what)
progress_answer exp progress.Stopped = Err faults.Stopped

-- and of one that was not opened
abbrev pub unopened_answer : List ℕ → NotOpened → Result (Option Reply) CoreFault
unopened_answer exp (unopened.Stuck what) = Ok (Some (Failed exp ends.Stuck what))
unopened_answer exp unopened.Stopped = Err faults.Stopped
unopened_answer exp fault = Err faults.Memory
