-- When a task can be done beside the open swaps, and the replies after an append and after the settling of all that moves.
use Rattle.std.specs.Prelude.{Result, Ok, Err, ◌<◌, ℕ, List, length, Option, Some, None}
use Rattle.journal_disk.specs.declared.fault.AppendFault.{AppendFault}
use Rattle.journal_disk.specs.declared.fault.AppendFault.TheVariants as appending
use Rattle.recovery.specs.declared.all.Settled.{Settled}
use Rattle.recovery.specs.declared.fault.SettleFault.{SettleFault}
use Rattle.recovery.specs.declared.fault.SettleFault.TheVariants as settling
use Rattle.script_text.specs.declared.reply.Reply.{Reply}
use Rattle.script_text.specs.declared.reply.Reply.TheVariants.{Down, Recovered}
use Rattle.lab_core.specs.declared.fault.CoreFault.{CoreFault}
use Rattle.lab_core.specs.declared.fault.CoreFault.TheVariants as faults
use Rattle.swap_mgr.specs.Open.{HasOpen}
use Rattle.swap_txn.specs.declared.live.Live.{Live}
use Rattle.lab_tasks.specs.Tasks.{Task, Swap, BeginOnly, Turn, Finish}

-- the reply, `down` where a call of the disk failed, or nothing where the plant stopped
abbrev pub append_answer : Reply → Result (Unit {0}) AppendFault → Result Reply CoreFault
append_answer reply (Ok done) = Ok reply
append_answer reply (Err appending.Stopped) = Err faults.Stopped
append_answer reply (Err fault) = Ok Down

-- how many were settled and how many are stuck; `down` where a call of the disk failed; or nothing where the plant stopped, or memory was wanting
abbrev pub recover_answer : Result Settled SettleFault → Result Reply CoreFault
recover_answer (Ok settled) = Ok (Recovered settled.done settled.stuck)
recover_answer (Err settling.Plant) = Ok Down
recover_answer (Err settling.Stopped) = Err faults.Stopped
recover_answer (Err settling.Memory) = Err faults.Memory

-- THE OPEN SWAPS ALLOW IT: a swap that begins has none open, and room for one more; one that is turned is open
abbrev pub IsReady : List Live → Task → Type 0
IsReady swaps (Swap exp way) = (HasOpen swaps exp → ⊥) × (length swaps < 16)
IsReady swaps (BeginOnly exp way) = (HasOpen swaps exp → ⊥) × (length swaps < 16)
IsReady swaps (Turn exp) = HasOpen swaps exp
IsReady swaps (Finish exp) = HasOpen swaps exp
IsReady swaps task = Unit {0}

-- the experiment whose swap it begins or turns
abbrev pub swapped_by : Task → Option (List ℕ)
swapped_by (Swap exp way) = Some exp
swapped_by (BeginOnly exp way) = Some exp
swapped_by (Turn exp) = Some exp
swapped_by (Finish exp) = Some exp
swapped_by task = None

-- that one, or any where it swaps none
abbrev pub or_any : Option (List ℕ) → Option (List ℕ) → Option (List ℕ)
or_any None exp = exp
or_any (Some name) exp = Some name
