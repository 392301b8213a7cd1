-- The tasks of commands that nothing refuses; and judgements of the code: a task, or a refusal.
use Rattle.std.specs.Prelude.{◌≡◌, ℕ, Bool, true, false, List, Some, Result, Ok, Err}
use Rattle.plant.specs.Worlds.{World}
use Rattle.journal_rec.specs.Payloads.{IsRecord}
use Rattle.journal_rec.specs.declared.record.Record.{Record}
use Rattle.journal_rec.specs.declared.record.Record.TheVariants.{Begin, Commit, Abort}
use Rattle.journal_rec.specs.declared.record.Way.{Way}
use Rattle.lab_base.specs.declared.fault.TextFault.{TextFault}
use Rattle.lab_base.specs.declared.fault.TextRefused.{TextRefused}
use Rattle.lab_base.specs.declared.fault.TextRefused.TheVariants as texts
use Rattle.lab_state.specs.Texts.{the_texts}
use Rattle.lab_model.specs.Courses.{Plan}
use Rattle.records_model.specs.Labs.{LabState, Move, Says, moved, lab_in, IsRightFor}
use Rattle.swap_txn.specs.States.{unsent}
use Rattle.swap_turns.specs.Swaps.{Swap as SwapOf, Moves}
use Rattle.swap_turns.specs.Beginning.{IsPlanOf, BeginsOf}
use Rattle.script_text.specs.Replies.{blames_device, closes}
use Rattle.script_text.specs.declared.reply.Reply.{Reply}
use Rattle.lab_tasks.specs.declared.task.NewSwap.{NewSwap}
use Rattle.lab_tasks.specs.declared.task.Task.{Task as TaskInHand}
use Rattle.lab_tasks.specs.declared.task.Task.TheVariants as tasks
use Rattle.lab_tasks.specs.declared.task.Refusal.{Refusal}
use Rattle.lab_tasks.specs.declared.task.Refusal.TheVariants.{Refused, Memory}
use Rattle.script_text.specs.declared.reply.Reply.TheVariants as replies

-- THE TASKS: each record says a move of the lab
pub data Task : Type 0 where
  -- it tells something
  Tell : (reply : Reply) → Task
  -- it appends a record, and tells that it is made
  Append : (entry : Record) (reply : Reply) → Task
  -- it begins a swap of the experiment that way by a record, and turns it to its end
  Swap : (exp : List ℕ) (way : Way) → Task
  -- it begins one, which later commands turn
  BeginOnly : (exp : List ℕ) (way : Way) → Task
  -- it makes one turn of the experiment's open swap
  Turn : (exp : List ℕ) → Task
  -- it turns the experiment's open swap to its end
  Finish : (exp : List ℕ) → Task
  -- it settles all that move and have no open swap
  Recover : Task

-- the task that is in hand
abbrev pub task_of : TaskInHand → Task
task_of (tasks.Tell reply) = Tell reply
task_of (tasks.Append entry reply) = Append entry reply
task_of (tasks.Swap swap) = Swap swap.exp swap.way
task_of (tasks.BeginOnly swap) = BeginOnly swap.exp swap.way
task_of (tasks.Turn exp) = Turn exp
task_of (tasks.Finish exp) = Finish exp
task_of tasks.Recover = Recover

-- the reply tells that a swap has ended: its experiment is in or out, or stuck
abbrev pub tells_end : Reply → Bool
tells_end (replies.In exp) = true
tells_end (replies.Out exp) = true
tells_end (replies.Failed exp end what) = true
tells_end reply = false

-- the reply neither closes the controller nor blames a device, and tells of no swap that has ended
abbrev pub IsMild : Reply → Type 0
IsMild reply = (closes reply ≡ false) × (blames_device reply ≡ false) × (tells_end reply ≡ false)

-- it gives what is judged, or memory was wanting
abbrev pub Gives : Result Task Reply → Result TaskInHand Refusal → Type 0
Gives judgement (Ok task) = judgement ≡ Ok (task_of task)
Gives judgement (Err (Refused reply)) = (judgement ≡ Err reply) × IsMild reply
Gives judgement (Err Memory) = Unit {0}

-- a check refuses by this judgement, if it refuses
abbrev pub Refuses : {X Y : Type 0} → Result Y Reply → Result X Refusal → Type 0
Refuses judgement (Ok x) = Unit {0}
Refuses judgement (Err (Refused reply)) = (judgement ≡ Err reply) × IsMild reply
Refuses judgement (Err Memory) = Unit {0}

-- it is that refusal, or memory was wanting
abbrev pub IsRefusal : {Y : Type 0} → Result Y Reply → Refusal → Type 0
IsRefusal judgement (Refused reply) = (judgement ≡ Err reply) × IsMild reply
IsRefusal judgement Memory = Unit {0}

-- the reply that a text has a fault, or memory was wanting
abbrev pub IsRefusedBy : (TextFault → Reply) → TextRefused → Refusal → Type 0
IsRefusedBy bad (texts.Text fault) refusal = (refusal ≡ Refused (bad fault)) × IsMild (bad fault)
IsRefusedBy bad texts.Memory refusal = refusal ≡ Memory

-- the record can follow, whatever the world
pub record MayFollow (s : LabState) (entry : Record) : Type 0 where
  pub move : Move
  pub says : Says the_texts s entry move
  pub state : LabState
  pub moves : moved s move ≡ Some state
  pub ready : (w : World) → IsRightFor s w move

-- what is judged is this, or one of these
abbrev pub IsJudged : (Result Task Reply → Type 0) → Result TaskInHand Refusal → Type 0
IsJudged Judges (Ok task) = Judges (Ok (task_of task))
IsJudged Judges (Err (Refused reply)) = Judges (Err reply) × IsMild reply
IsJudged Judges (Err Memory) = Unit {0}

-- THE SWAP OF A RECORD, with those commands: its Begin says a move that is right whatever the world, and where that leads to a lab the experiment moves there
pub record IsSwapBy (s : LabState) (exp : List ℕ) (way : Way) (course back : Plan) : Type 0 where
  pub swap : SwapOf
  pub move : Move
  pub name : swap.name ≡ exp
  pub says : Says the_texts s (Begin exp way) move
  pub ready : (w : World) → IsRightFor s w move
  pub begins : BeginsOf swap.name move
  pub moves : (u : LabState) → moved s move ≡ Some u → Moves swap u
  pub plan : (u : LabState) → moved s move ≡ Some u → IsPlanOf swap (lab_in u.lab) (unsent exp way course back)

-- the record begins a swap
abbrev pub IsBegin : Record → Type 0
IsBegin (Begin exp way) = Unit {0}
IsBegin entry = ⊥

-- the record ends no move
abbrev pub EndsNoMove : Record → Type 0
EndsNoMove (Commit exp) = ⊥
EndsNoMove (Abort exp) = ⊥
EndsNoMove entry = Unit {0}

-- THE TASK CAN BE DONE in that lab: what it tells is mild; its record can be written, and can follow; or it is the swap of its record
pub record CanAppend (s : LabState) (entry : Record) (reply : Reply) : Type 0 where
  pub is_record : IsRecord entry
  pub follows : MayFollow s entry
  pub no_end : EndsNoMove entry
  pub mild : IsMild reply

abbrev pub CanSwap : LabState → NewSwap → Type 0
CanSwap s swap = IsRecord (Begin swap.exp swap.way) × MayFollow s (Begin swap.exp swap.way) × IsSwapBy s swap.exp swap.way swap.ops.commands swap.ops.undo

abbrev pub CanDo : LabState → TaskInHand → Type 0
CanDo s (tasks.Tell reply) = IsMild reply
CanDo s (tasks.Append entry reply) = CanAppend s entry reply
CanDo s (tasks.Swap swap) = CanSwap s swap
CanDo s (tasks.BeginOnly swap) = CanSwap s swap
CanDo s task = Unit {0}
