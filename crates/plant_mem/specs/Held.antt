-- The rows and nodes of a plant in memory.
use Rattle.std.specs.Prelude.{ℕ, ◌+◌, ◌-◌, ◌^◌, min, Bool, true, false, List, [], ◌∷◌, ◌++◌, Option, None}
use Rattle.lab_base.specs.declared.boot.Boot.{Boot}
use Rattle.lab_base.specs.declared.boot.Boot.TheVariants.{Off}
use Rattle.plant.specs.Events.{Event}
use Rattle.plant.specs.Told.{Told}
use Rattle.plant.specs.declared.drill.Pick.{Pick}
use Rattle.plant.specs.declared.drill.Pick.TheVariants.{Nothing}
use Rattle.plant.specs.declared.moment.Faults.{Faults}
use Rattle.plant_mem.specs.Boots.{state_in}
use Rattle.plant_mem.specs.MemLab.{told_of}
use Rattle.plant_mem.specs.declared.mem.MemLab.{MemLab}
use Rattle.plant_mem.specs.declared.plans.Plan.{Plan}
use Rattle.plant_mem.specs.declared.stops.StopPlan.{StopPlan}

-- ALL THAT A CALL MAY CHANGE, beside the rooms: its past; the counts of faults; whether it is stopped, and by which pick it stopped; the
-- drills that wait, of devices, of the disk, and the stop; and the boot states of nodes
pub record Held : Type 0 where
  pub told : Told
  pub faults : Faults
  pub stopped : Bool
  pub pick : Pick
  pub plans : List Plan
  pub disk_plans : List ℕ
  pub stop : Option StopPlan
  pub state : List ℕ → Boot

abbrev pub held_of : MemLab → Held
held_of m = record {
  told = told_of m;
  faults = m.faults;
  stopped = m.stopped;
  pick = m.pick;
  plans = m.plans.items;
  disk_plans = m.disk_plans.items;
  stop = m.stop;
  state = λ node. state_in node m.past.nodes.nodes.items;
}

-- nothing has happened, and nothing is planned
abbrev pub at_first : Held
at_first = record {
  told = record { trace = []; marks = []; drills = [] };
  faults = record { disk = 0; devices = 0 };
  stopped = false;
  pick = Nothing;
  plans = [];
  disk_plans = [];
  stop = None;
  state = λ node. Off;
}

-- a step that has its effect or not; and some steps more
abbrev pub effect_if : Bool → Event → List Event
effect_if true effect = effect ∷ []
effect_if false effect = []

abbrev pub with_events : List Event → Held → Held
with_events steps h = record h { told = record h.told { trace = h.told.trace ++ steps } }

-- a count more; at its last value it stands
abbrev pub one_more : ℕ → ℕ
one_more n = min (n + 1) (2 ^ 64 - 1)

-- it stops, by that pick
abbrev pub halted : Pick → Held → Held
halted pick h = record h { stopped = true; pick = pick }
