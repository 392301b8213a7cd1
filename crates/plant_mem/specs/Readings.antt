-- The state after the readings of a plant in memory.
use Rattle.std.specs.Prelude.{ℕ, ◌-◌, ◌==◌, ◌&&◌, Bool, true, false, List, [], ◌∷◌, ◌++◌, map, Option, is_some, Result, Ok, Err, if◌then◌else◌}
use Rattle.std.specs.List.{list_any}
use Rattle.std.specs.Str.{bytes_eq}
use Rattle.std.proofs.Common.{zero, suc}
use Rattle.plant.specs.Events.{Unread}
use Rattle.plant.specs.Worlds.{PipeRow}
use Rattle.plant.specs.declared.pipe_row.ReadFailed.{ReadFailed}
use Rattle.plant_mem.specs.declared.plans.Plan.{Plan}
use Rattle.plant_mem.specs.Held.{Held, with_events, one_more}
use Rattle.plant_mem.specs.Plans.{is_read}

-- a reading of the device counts for the plan; it is the one that the plan waits for
abbrev pub counts_reading : List ℕ → Plan → Bool
counts_reading device plan = is_read plan.how && bytes_eq plan.device device

abbrev pub is_due_reading : List ℕ → Plan → Bool
is_due_reading device plan = counts_reading device plan && plan.left == 1

-- a reading is counted
abbrev pub left_of_readings : List ℕ → Plan → ℕ
left_of_readings device plan = if counts_reading device plan then plan.left - 1 else plan.left

abbrev pub reading_counted : List ℕ → Plan → Plan
reading_counted device plan = record plan { left = left_of_readings device plan }

-- THE READING FAILS by a drill, where there is room for a step
abbrev pub fails_reading : Bool → List ℕ → Held → Bool
fails_reading room device h = list_any (is_due_reading device) h.plans && room

-- it is answered with that, where it doesn't fail
abbrev pub read_answer : {T : Type 0} → Bool → T → Result T ReadFailed
read_answer true value = Err (record {})
read_answer false value = Ok value

-- WHAT A READING LEAVES: it is counted, and a failure is a step and is counted as a fault of the devices
abbrev pub reading_ended : Bool → List ℕ → Held → Held
reading_ended false device h = h
reading_ended true device h = record (with_events (Unread device ∷ []) h) { faults = record h.faults { devices = one_more h.faults.devices } }

abbrev pub after_reading : Bool → List ℕ → Held → Held
after_reading room device h = reading_ended (fails_reading room device h) device (record h { plans = map (reading_counted device) h.plans })

-- the numbers below n of the pipes that are set, in order
abbrev pub number_if : Bool → ℕ → List ℕ
number_if true k = k ∷ []
number_if false k = []

abbrev pub numbers_below : ℕ → (ℕ → Option PipeRow) → List ℕ
numbers_below zero pipes = []
numbers_below (suc n) pipes = numbers_below n pipes ++ number_if (is_some (pipes n)) n
