-- A BATCH IN HAND: what is judged of it and of a run, and what the runs leave one after another.
use Rattle.std.specs.Prelude.{◌≡◌, ◌⊎◌, ◌≤◌, ◌+◌, ℕ, Bool, true, false, List, [], ◌∷◌, ◌++◌, Some, None, Result, Ok, Err, IfOk, if◌then◌else◌}
use Rattle.plant.specs.Seen.{Seen}
use Rattle.recovery.specs.Due.{is_busy}
use Rattle.cost_rule.specs.declared.rule.RuleNumber.{RuleNumber}
use Rattle.lab_ahead.specs.declared.batch.Promise.{Promise}
use Rattle.lab_ahead.specs.declared.batch.Run.{Run}
use Rattle.lab_ahead.specs.declared.ends.End.{End}
use Rattle.script_text.specs.Replies.{blames_device, closes, served_of}
use Rattle.script_text.specs.declared.reply.Reply.{Reply}
use Rattle.script_text.specs.declared.reply.Served.{Served}
use Rattle.lab_core.specs.declared.fault.CoreFault.{CoreFault}
use Rattle.lab_core.specs.declared.fault.CoreFault.TheVariants as faults
use Rattle.lab_judge.specs.declared.run.Queue.{Queue}
use Rattle.lab_core.specs.Coming.{AllDone, AllWants, Origin}
use Rattle.lab_core.specs.Controller.{Control, WorksWith}
use Rattle.lab_core.specs.InTurn.{IsPart, is_in}
use Rattle.lab_core.specs.LabSteps.{has_space}
use Rattle.lab_core.specs.Obey.{Obeyed, Obeys, start_of}
use Rattle.lab_judge.specs.Serving.{Serving}
use Rattle.lab_core.specs.BatchList.{JudgedRun, runs_in_turn}
use Rattle.lab_core.specs.Sessions.{OpenSwap, names_of}

-- the ends after a run
abbrev pub ends_if : Bool → Queue → Run → List End
ends_if inside queue run = if inside then queue.ends ++ record { exp = run.exp; at = queue.moment + run.length } ∷ [] else queue.ends

-- the place before the first of these runs
abbrev pub first_place : List Promise → List Run → Serving
first_place promises runs = record { promises = promises; left = runs; ends = []; told = [] }

-- ONE RUN, with any swaps open. A reply that blames a device is of a swap that began.
pub record ObeysRunBeside (rule : RuleNumber) (queue : Queue) (run : Run) (before now : Seen) (old new : Control) (opens : List OpenSwap) (devices : ℕ) (result : Result Reply CoreFault) : Type 0 where
  pub obeyed : Obeyed devices before now (JudgedRun rule queue.moment queue.promises queue.ends run (λ entry. has_space (start_of devices old opens).set entry) old.lab opens) old new opens (Some run.exp) result
  pub idle : IfOk result (λ reply. blames_device reply ≡ true → is_busy (names_of opens) run.exp ≡ false)

abbrev pub ObeysRun : RuleNumber → Queue → Run → Seen → Seen → Control → Control → Result Reply CoreFault → Type 0
ObeysRun rule queue run before now old new result =
    (opens : List OpenSwap) (devices : ℕ) → devices ≤ before.faults.devices → WorksWith before old opens → ObeysRunBeside rule queue run before now old new opens devices result

-- these are the replies so far, and that one after them
abbrev pub IsToldAfter : Served → Reply → Served → Type 0
IsToldAfter so_far reply next = (told : List Reply) → so_far ≡ served_of told → next ≡ served_of (told ++ reply ∷ [])

-- how it ended: it was answered, and its reply is told; or the plant stopped; or memory was wanting, before it was done or after it
abbrev pub EndsRun : Served → List ℕ → (Result Reply CoreFault → Type 0) → Result (Served × Bool) CoreFault → Type 0
EndsRun so_far exp Leaves (Ok next) = (reply : Reply) × IsPart exp reply × (next.1 ≡ is_in reply) × IsToldAfter so_far reply next.0 × Leaves (Ok reply)
EndsRun so_far exp Leaves (Err faults.Stopped) = Leaves (Err faults.Stopped)
EndsRun so_far exp Leaves (Err faults.Memory) = Leaves (Err faults.Memory) ⊎ ((reply : Reply) × (closes reply ≡ false) × IsPart exp reply × Leaves (Ok reply))

-- where they begin, with any swaps open
abbrev pub runs_from : Seen → Control → List OpenSwap → Serving → ℕ → Origin Serving
runs_from before old opens start devices = record { before = before; old = old; opens = opens; start = start; devices = devices }

-- ALL OF THEM, from that place
abbrev pub ObeysRuns : RuleNumber → ℕ → Serving → ℕ → Seen → Seen → Control → Control → List OpenSwap → Result Reply CoreFault → Type 0
ObeysRuns rule moment start devices before now old new opens result =
    Obeys (AllDone (runs_in_turn rule moment) (runs_from before old opens start devices)) (AllWants (runs_in_turn rule moment) (runs_from before old opens start devices)) devices before now old new opens None result
