-- The state after a call of `obey`, over every plant.
use Rattle.std.specs.Prelude.{◌≡◌, ◌↔◌, ◌≤◌, ℕ, Bool, true, false, List, [], ◌∷◌, ◌++◌, not, Option, Some, None, Result, Ok, Err, IfOk, IfSome, IsErrOf, IsTrue}
use Rattle.lab_base.specs.Counts.{Rose}
use Rattle.plant.specs.Disks.{ArePossible}
use Rattle.plant.specs.Events.{Event, Restarted}
use Rattle.plant.specs.Told.{with_steps}
use Rattle.records_model.specs.Labs.{LabState}
use Rattle.records_model.specs.Works.{IsSound}
use Rattle.lab_state.specs.Texts.{the_texts}
use Rattle.cost_rule.specs.declared.rule.RuleNumber.{RuleNumber}
use Rattle.journal_disk.specs.Standing.{length_of, limit_of}
use Rattle.plant.specs.Seen.{Seen}
use Rattle.swap_turns.specs.Lengths.{IsLonger}
use Rattle.script_text.specs.Replies.{blames_device, closes}
use Rattle.script_text.specs.declared.command.Command.{Command}
use Rattle.script_text.specs.declared.command.Command.TheVariants as commands
use Rattle.script_text.specs.declared.reply.Reply.{Reply}
use Rattle.script_text.specs.declared.reply.Reply.TheVariants as replies
use Rattle.lab_core.specs.declared.fault.CoreFault.{CoreFault}
use Rattle.lab_core.specs.declared.fault.CoreFault.TheVariants as faults
use Rattle.lab_core.specs.Controller.{Control, WorksWith}
use Rattle.lab_tasks.specs.Tasks.{Task, Recover}
use Rattle.lab_core.specs.Commands.{DoesCommand, ground_by}
use Rattle.lab_core.specs.LabSteps.{IsDoneBy, JudgedBeside}
use Rattle.lab_core.specs.Lists.{WantsInList}
use Rattle.lab_core.specs.Moments.{StandForLab, trace_in}
use Rattle.lab_core.specs.PlayList.{JudgedPlay, events_in_turn}
use Rattle.lab_core.specs.Recovery.{SettlesFirst}
use Rattle.lab_judge.specs.Serving.{JudgedBatch}
use Rattle.lab_core.specs.BatchList.{runs_in_turn}
use Rattle.lab_core.specs.Sessions.{OpenSwap, Setting, After, AreOpenedBy, blames_now, counted_from, names_of, open_by, shut_by}
use Rattle.lab_tasks.specs.OpenNames.{name_of}

-- WHERE A COMMAND BEGINS: what its journal is judged by, the count of device faults at which a swap of it is opened, the lab, and the open swaps
pub record Start : Type 0 where
  pub set : Setting
  pub lab : LabState
  pub opens : List OpenSwap

abbrev pub start_of : ℕ → Control → List OpenSwap → Start
start_of devices c opens = record { set = record { length = length_of c.journal; limit = limit_of c.journal; devices = devices }; lab = c.lab; opens = opens }

-- WHAT WAS DONE, over the trace before it, where that is told, by its own steps and by what it leaves
abbrev pub Doing : Type 1
Doing = Option (List Event) → List Event → After → Type 0

-- HOW MEMORY WAS WANTING, over the trace before it, where that is told, by its own steps, the lab and the swaps that stay open
abbrev pub Wanting : Type 1
Wanting = Option (List Event) → List Event → LabState → List OpenSwap → Type 0

-- each image that is possible after these steps stands for a lab that the command leads to by them
abbrev pub AllShut : Doing → Option (List Event) → List Event → Reply → (List ℕ → List ℕ → List Event) → List Event → Type 0
AllShut Done trace own reply behind t = (a b : List ℕ) → ArePossible (t ++ own) a b → (lab : LabState) × StandForLab a b lab × Done trace (own ++ behind a b) (shut_by (Some reply) lab)

-- THE CONTROLLER IS CLOSED: it is so by these steps, whatever image a stopped plant is started again with; and over a sound trace all images are of them
pub record Shuts (Done : Doing) (trace : Option (List Event)) (own : List Event) (reply : Reply) (behind : List ℕ → List ℕ → List Event) : Type 0 where
  pub lab : LabState
  pub done : (a b : List ℕ) → Done trace (own ++ behind a b) (shut_by (Some reply) lab)
  pub images : IfSome trace (λ t. IsSound the_texts t → AllShut Done trace own reply behind t)

-- IT GOES ON with these open swaps, or a reply closes it
abbrev pub AnswersBy : Doing → Option (List Event) → List Event → Reply → LabState → List OpenSwap → Bool → Type 0
AnswersBy Done trace own reply lab to false = Done trace own (open_by reply lab to)
AnswersBy Done trace own reply lab to true = Shuts Done trace own reply (λ a b. [])

-- MEMORY WAS WANTING before anything was done; or in `recover` between two experiments, the first of which are settled. No swap is ended by it, and each
-- that is open stays so.
pub data WantsIn (IsJudged : Result Task Reply → Type 0) (start : Start) (own : List Event) (lab : LabState) (to : List OpenSwap) : Type 0 where
  undone : own ≡ [] → lab ≡ start.lab → to ≡ start.opens → WantsIn IsJudged start own lab to
  between : IsJudged (Ok Recover) → SettlesFirst start.lab (names_of start.opens) own lab → to ≡ start.opens → WantsIn IsJudged start own lab to

-- BY ITS ANSWER: a reply; or the plant stopped, and is started again; or memory was wanting
abbrev pub EndsBy : Doing → Wanting → Option (List Event) → List Event → LabState → List OpenSwap → Result Reply CoreFault → Type 0
EndsBy Done Wants trace own lab to (Ok reply) = AnswersBy Done trace own reply lab to (closes reply)
EndsBy Done Wants trace own lab to (Err faults.Stopped) = Shuts Done trace own replies.Stopped (λ a b. Restarted a b ∷ [])
EndsBy Done Wants trace own lab to (Err faults.Memory) = Wants trace own lab to

-- WHAT A CALL DID by these steps, over every plant; and where its past is told, a sound trace stays sound
pub record StepsBy (Done : Doing) (Wants : Wanting) (trace : Option (List Event)) (own : List Event) (lab : LabState) (to : List OpenSwap) (result : Result Reply CoreFault) : Type 0 where
  pub ends : EndsBy Done Wants trace own lab to result
  pub sound : IfSome trace (λ t. IsSound the_texts t → IsSound the_texts (t ++ own))

-- there are such steps, and a plant that tells its past tells them
abbrev pub ToldBy : Doing → Wanting → Seen → Seen → LabState → List OpenSwap → Result Reply CoreFault → Type 0
ToldBy Done Wants before now lab to result = (own : List Event) × (now.told ≡ with_steps before.told own) × StepsBy Done Wants (trace_in before.told) own lab to result

abbrev pub done_as : (Result Task Reply → Type 0) → Start → Doing
done_as IsJudged start = λ trace own after. IsDoneBy IsJudged start.set start.lab start.opens own after

abbrev pub wants_as : (Result Task Reply → Type 0) → Start → Wanting
wants_as IsJudged start = λ trace own lab to. WantsIn IsJudged start own lab to

-- it is at work afterwards, also where memory was wanting
abbrev pub stays_at_work : Result Reply CoreFault → Bool
stays_at_work (Ok reply) = not (closes reply)
stays_at_work (Err faults.Stopped) = false
stays_at_work (Err faults.Memory) = true

abbrev pub reply_of : Result Reply CoreFault → Option Reply
reply_of (Ok reply) = Some reply
reply_of (Err fault) = None

-- ALL THAT A CALL LEAVES, of what is seen of a plant before it and after it, where the controller works with these open swaps, and a swap of the command
-- is opened at that count. Where it works on, the journal is longer by the records that its steps append. A failure of a device is told only where their
-- count rose since the experiment's swap was opened, or since that count; and one of what the command itself sent only where it rose in this call.
pub record Obeys (Done : Doing) (Wants : Wanting) (devices : ℕ) (before now : Seen) (old new : Control) (opens : List OpenSwap) (exp : Option (List ℕ)) (result : Result Reply CoreFault) : Type 0 where
  pub to : List OpenSwap
  pub obeys : ToldBy Done Wants before now new.lab to result
  pub works : stays_at_work result ≡ true → WorksWith now new to
  pub limit : limit_of new.journal ≡ limit_of old.journal
  pub longer : stays_at_work result ≡ true → IsLonger old.journal new.journal obeys.0
  pub opened : AreOpenedBy exp (reply_of result) opens to devices
  pub down : IfOk result (λ reply. closes reply ≡ true → Rose before.faults.disk now.faults.disk)
  pub device : IfOk result (λ reply. blames_device reply ≡ true → Rose (counted_from opens exp devices) now.faults.devices)
  pub here : IfOk result (λ reply. blames_now reply ≡ true → Rose before.faults.devices now.faults.devices)
  pub later : before.faults.disk ≤ now.faults.disk
  pub still : before.faults.devices ≤ now.faults.devices
  pub stopped : before.stopped ≡ false → IsErrOf result faults.Stopped ↔ IsTrue now.stopped

-- of what was judged
abbrev pub Obeyed : ℕ → Seen → Seen → (Result Task Reply → Type 0) → Control → Control → List OpenSwap → Option (List ℕ) → Result Reply CoreFault → Type 0
Obeyed devices before now IsJudged old new opens exp result =
    Obeys (done_as IsJudged (start_of devices old opens)) (wants_as IsJudged (start_of devices old opens)) devices before now old new opens exp result

-- OF A COMMAND, by that cost rule: what an open controller does of it, over the trace before it
abbrev pub does_command : RuleNumber → Command → ℕ → Control → List OpenSwap → Doing
does_command rule command devices c opens = λ trace own after. DoesCommand rule command trace (start_of devices c opens).set opens c.lab own after

abbrev pub wants_of_command : RuleNumber → Command → ℕ → Control → List OpenSwap → Wanting
wants_of_command rule (commands.Play exp from until lines text) devices c opens =
    λ trace own lab to. WantsInList (events_in_turn exp) (JudgedPlay c.lab opens exp from until text) (ground_by (start_of devices c opens).set) trace c.lab opens own lab to
wants_of_command rule (commands.Batch moment lines text) devices c opens =
    λ trace own lab to. WantsInList (runs_in_turn rule moment) (JudgedBatch c.lab text) (ground_by (start_of devices c opens).set) trace c.lab opens own lab to
wants_of_command rule commands.Audit devices c opens = λ trace own lab to. (own ≡ []) × (lab ≡ c.lab) × (to ≡ opens)
wants_of_command rule command devices c opens = wants_as (JudgedBeside rule command opens c.lab) (start_of devices c opens)

abbrev pub ObeysCommand : RuleNumber → Command → ℕ → Seen → Seen → Control → Control → List OpenSwap → Result Reply CoreFault → Type 0
ObeysCommand rule command devices before now old new opens result =
    Obeys (does_command rule command devices old opens) (wants_of_command rule command devices old opens) devices before now old new opens (name_of command) result
