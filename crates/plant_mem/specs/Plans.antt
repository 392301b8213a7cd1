-- Drills of devices that wait to happen.
use Rattle.std.specs.Prelude.{ℕ, ◌-◌, ◌==◌, ◌&&◌, ◌||◌, not, Bool, true, false, List, Option, Some, None, option_map, Result, Ok, Err, if◌then◌else◌}
use Rattle.std.specs.List.{list_any, find}
use Rattle.std.specs.Str.{bytes_eq}
use Rattle.plant.specs.declared.device.Answer.{Answer}
use Rattle.plant.specs.declared.device.DeviceOp.{DeviceOp}
use Rattle.plant.specs.declared.device.DeviceOp.TheVariants.{Poll, Wipe}
use Rattle.plant.specs.declared.device.Fault.{Fault}
use Rattle.plant.specs.declared.device.Fault.TheVariants.{Failed}
use Rattle.plant.specs.declared.drill.Drill.{Drill}
use Rattle.plant.specs.declared.drill.Drill.TheVariants.{Device, Disk, Stop}
use Rattle.plant.specs.declared.drill.How.{How}
use Rattle.plant.specs.declared.drill.How.TheVariants.{Applied, Hang, Jump, Read}
use Rattle.plant_mem.specs.declared.boot_step.BootStep.{BootStep}
use Rattle.plant_mem.specs.declared.boot_step.BootStep.TheVariants.{Moves, Hangs, Jumps}
use Rattle.plant_mem.specs.declared.plans.Plan.{Plan}
use Rattle.plant.specs.Calls.{device_of}

-- kinds of commands and of failures
abbrev pub is_poll : DeviceOp → Bool
is_poll (Poll node) = true
is_poll op = false

abbrev pub is_wipe : DeviceOp → Bool
is_wipe (Wipe node) = true
is_wipe op = false

abbrev pub is_applying : How → Bool
is_applying Applied = true
is_applying how = false

abbrev pub is_hang : How → Bool
is_hang Hang = true
is_hang how = false

abbrev pub is_jump : How → Bool
is_jump Jump = true
is_jump how = false

-- it waits for a reading, which is no command
abbrev pub is_read : How → Bool
is_read Read = true
is_read how = false

-- a hang or a jump waits for a poll, the others but for that for any command
abbrev pub waits_for_poll : How → Bool
waits_for_poll how = is_hang how || is_jump how

-- the command counts for the plan
abbrev pub counts : DeviceOp → Plan → Bool
counts op plan = not (is_read plan.how) && (bytes_eq plan.device (device_of op) && (is_poll op || not (waits_for_poll plan.how)))

-- it is the one that the plan waits for
abbrev pub is_due : DeviceOp → Plan → Bool
is_due op plan = counts op plan && plan.left == 1

-- by this plan the command fails
abbrev pub fails_by : DeviceOp → Plan → Bool
fails_by op plan = is_due op plan && not (waits_for_poll plan.how)

-- the command fails, applied or not, by the first plan that says so
abbrev pub firing : DeviceOp → List Plan → Option Bool
firing op plans = option_map (λ plan. is_applying plan.how) (find (fails_by op) plans)

-- by this plan the poll jumps
abbrev pub jumps_by : DeviceOp → Plan → Bool
jumps_by op plan = is_due op plan && is_jump plan.how

-- by this plan the node begins to hang; and the poll hangs, by a hang that begins or has begun
abbrev pub begins_hang : DeviceOp → Plan → Bool
begins_hang op plan = is_due op plan && is_hang plan.how

abbrev pub hangs_by : DeviceOp → Plan → Bool
hangs_by op plan = begins_hang op plan || (counts op plan && plan.hangs)

-- how a poll moves: a jump wins over a hang
abbrev pub boot_step_of : DeviceOp → List Plan → BootStep
boot_step_of op plans = if list_any (jumps_by op) plans then Jumps else if list_any (hangs_by op) plans then Hangs else Moves

-- by a Wipe of the node that is applied a hang ends that has begun
abbrev pub ends_hang : DeviceOp → Bool → Plan → Bool
ends_hang op applied plan = applied && is_wipe op && bytes_eq plan.device (device_of op)

-- a command is counted, that was applied or not
abbrev pub left_after : DeviceOp → Plan → ℕ
left_after op plan = if counts op plan then plan.left - 1 else plan.left

abbrev pub counted : DeviceOp → Bool → Plan → Plan
counted op applied plan = record plan { left = left_after op plan; hangs = begins_hang op plan || (plan.hangs && not (ends_hang op applied plan)) }

-- the plan of a drill
abbrev pub plan_of : Drill → Option Plan
plan_of (Device name nth how) = Some (record { device = name; how = how; left = nth; hangs = false })
plan_of (Disk nth) = None
plan_of (Stop nth pick) = None

-- whether a command is applied that fails so, or doesn't fail
abbrev pub is_applied : Option Bool → Bool
is_applied None = true
is_applied (Some applied) = applied

-- what a command is answered that fails so, or would be answered so
abbrev pub answer_by : Option Bool → Answer → Result Answer Fault
answer_by None answer = Ok answer
answer_by (Some applied) answer = Err Failed
