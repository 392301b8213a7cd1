-- The state after the other calls of a plant in memory: commands, drills, marks and starts.
use Rattle.std.specs.Prelude.{Bool, true, false, [], ◌∷◌, ◌++◌, map, length, Option, Some, None, is_some, Result, Err, if◌then◌else◌}
use Rattle.lab_base.specs.Lists.{listed}
use Rattle.plant.specs.Disks.{disk}
use Rattle.plant.specs.Events.{Did, Restarted}
use Rattle.plant.specs.declared.device.Answer.{Answer}
use Rattle.plant.specs.declared.device.DeviceOp.{DeviceOp}
use Rattle.plant.specs.declared.device.Fault.{Fault}
use Rattle.plant.specs.declared.device.Fault.TheVariants.{Stopped}
use Rattle.plant.specs.declared.drill.Drill.{Drill}
use Rattle.plant.specs.declared.drill.Pick.{Pick}
use Rattle.plant.specs.declared.drill.Pick.TheVariants.{Nothing}
use Rattle.plant.specs.declared.step.Side.TheVariants.{A, B}
use Rattle.plant_mem.specs.Boots.{answer_of, state_sent}
use Rattle.plant_mem.specs.DiskPlans.{stops_next, stop_counted, stop_planned, disk_planned, is_done}
use Rattle.plant_mem.specs.Held.{Held, with_events, effect_if, one_more, halted}
use Rattle.plant_mem.specs.Picks.{left_by}
use Rattle.plant_mem.specs.Plans.{firing, boot_step_of, counted, plan_of, is_applied, answer_by}

-- a command counts in the drills of devices, and moves the boot states where it is applied
abbrev pub used : DeviceOp → Bool → Held → Held
used op applied h = record h { plans = map (counted op applied) h.plans; state = λ node. state_sent op (boot_step_of op h.plans) applied node (h.state node) }

-- the answer of a command that is sent, and what it leaves: it fails by the first drill that says so
abbrev pub answer_sent : DeviceOp → Held → Result Answer Fault
answer_sent op h = answer_by (firing op h.plans) (answer_of op (boot_step_of op h.plans) h.state)

abbrev pub failed_if : Bool → Held → Held
failed_if true h = record h { faults = record h.faults { devices = one_more h.faults.devices } }
failed_if false h = h

abbrev pub sent : DeviceOp → Held → Held
sent op h = failed_if (is_some (firing op h.plans)) (with_events (Did op (is_applied (firing op h.plans)) (answer_sent op h) ∷ []) (used op (is_applied (firing op h.plans)) h))

-- the plant stops at a command, by that pick
abbrev pub stopped_at : DeviceOp → Pick → Held → Held
stopped_at op pick h = halted pick (with_events (effect_if (is_done pick) (Did op true (Err Stopped))) (used op (is_done pick) h))

-- a stop wins over a failure
abbrev pub met_command : Option Pick → DeviceOp → Held → Held
met_command None op h = sent op h
met_command (Some pick) op h = stopped_at op pick h

abbrev pub met_answer : Option Pick → Result Answer Fault → Result Answer Fault
met_answer None answer = answer
met_answer (Some pick) answer = Err Stopped

-- WHAT A COMMAND LEAVES, AND WHAT IT IS ANSWERED, by whether there is room for it
abbrev pub after_command : Bool → DeviceOp → Held → Held
after_command room op h = if h.stopped then h else (if room then met_command (stops_next h.stop) op (record h { stop = stop_counted h.stop }) else halted Nothing h)

abbrev pub answer_command : Bool → DeviceOp → Held → Result Answer Fault
answer_command room op h = if h.stopped then Err Stopped else (if room then met_answer (stops_next h.stop) (answer_sent op h) else Err Stopped)

-- WHAT A DRILL LEAVES that is taken, A MARK, AND A START
abbrev pub drilled : Drill → Held → Held
drilled drill h = record h {
  told = record h.told { drills = h.told.drills ++ record { at = length h.told.trace; drill = drill } ∷ [] };
  plans = h.plans ++ listed (plan_of drill);
  disk_plans = h.disk_plans ++ disk_planned drill;
  stop = stop_planned drill h.stop;
}

abbrev pub marked : Held → Held
marked h = record h { told = record h.told { marks = h.told.marks ++ record { at = length h.told.trace; faults = h.faults } ∷ [] } }

abbrev pub restarted : Held → Held
restarted h = record (with_events (Restarted (left_by h.pick (disk A h.told.trace)) (left_by h.pick (disk B h.told.trace)) ∷ []) h) { stopped = false; pick = Nothing }
