-- A batch in hand, and the test of a run.
use Rattle.std.specs.Prelude.{◌≤◌, ◌+◌, ℕ, nat_le, Bool, List, length, Option, Some, Result, Ok, Err, if◌then◌else◌}
use Rattle.phys_lab.specs.Labs.{Lab}
use Rattle.virt_topo.specs.declared.mapping.Mapping.{Mapping}
use Rattle.journal_rec.specs.Payloads.{IsRecord}
use Rattle.journal_rec.specs.declared.record.Record.{Record}
use Rattle.journal_rec.specs.declared.record.Record.TheVariants.{Begin}
use Rattle.journal_model.specs.Journals.{size}
use Rattle.records_model.specs.Labs.{LabState}
use Rattle.lab_ahead.specs.declared.batch.Batch.{Batch}
use Rattle.lab_ahead.specs.declared.batch.Run.{Run}
use Rattle.lab_ahead.specs.declared.times.Left.{Left}
use Rattle.lab_ahead.specs.declared.waits.Wait.{Wait}
use Rattle.lab_ahead.specs.Ends.{left_for}
use Rattle.lab_judge.specs.declared.run.Queue.{Queue}
use Rattle.lab_judge.specs.declared.space.Space.{Space}
use Rattle.lab_tasks.specs.declared.task.Task.{Task as TaskInHand}
use Rattle.lab_tasks.specs.declared.task.Task.TheVariants as tasks
use Rattle.lab_tasks.specs.declared.task.Refusal.{Refusal}
use Rattle.lab_tasks.specs.declared.task.Refusal.TheVariants as refusals
use Rattle.lab_tasks.specs.Tasks.{Swap, Task, Tell, IsMild, task_of}
use Rattle.lab_judge.specs.Serving.{JudgedBatch, claimers_of, first_run, wait_of}

-- what is judged of a batch is one of these
abbrev pub IsJudgedBatch : LabState → List ℕ → Result Batch Refusal → Type 0
IsJudgedBatch s text (Ok batch) = JudgedBatch s text (Ok (first_run batch))
IsJudgedBatch s text (Err (refusals.Refused reply)) = JudgedBatch s text (Err reply) × IsMild reply
IsJudgedBatch s text (Err refusals.Memory) = Unit {0}

-- a run that can be tested in the batch
pub record CanServe (queue : Queue) (run : Run) : Type 0 where
  pub few : length queue.promises ≤ 64
  pub moment : queue.moment ≤ 1000000000000
  pub short : run.length ≤ 1000000000000

-- what is left for a run in that mapping
abbrev pub left_beside : Lab → LabState → Queue → Mapping → List Left
left_beside lab s queue m = left_for (claimers_of (length lab.nodes) s.experiments) queue.ends m.places

-- a journal has space for so many bytes, and for a record: with the last records of moves that is within its limit
abbrev pub has_space : Space → ℕ → Bool
has_space space bytes = nat_le (space.length + bytes + 10240) space.limit

abbrev pub space_in : Space → Record → Bool
space_in space entry = has_space space (size entry)

-- a swap whose record can be written
abbrev pub IsSwapTask : TaskInHand → Type 0
IsSwapTask (tasks.Swap swap) = IsRecord (Begin swap.exp swap.way)
IsSwapTask task = ⊥

-- it tells the wait, if there is one and the journal has space for the swap
abbrev pub held_back : (Record → Bool) → TaskInHand → Option Wait → Task
held_back space (tasks.Swap swap) (Some wait) = if space (Begin swap.exp swap.way) then Tell (wait_of swap.exp wait) else Swap swap.exp swap.way
held_back space task wait = task_of task
