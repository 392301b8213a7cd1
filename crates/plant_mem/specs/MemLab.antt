-- A plant in memory, as contracts see it.
use Rattle.std.specs.Prelude.{ℕ, Bool, List, Some}
use Rattle.lab_base.specs.declared.boot.Boot.{Boot}
use Rattle.plant.specs.Sides.{of_side}
use Rattle.plant_mem.specs.declared.mem_side.MemSide.{MemSide}
use Rattle.plant.specs.declared.step.Side.{Side}
use Rattle.plant_mem.specs.declared.mem.MemLab.{MemLab}
use Rattle.plant.specs.declared.moment.Faults.{Faults}
use Rattle.plant_mem.specs.Boots.{state_in}
use Rattle.plant_mem.specs.Steps.{trace_of}
use Rattle.plant.specs.Seen.{Seen}
use Rattle.plant.specs.Told.{Told}

-- the bytes of which steps name ranges
abbrev pub bytes_of : MemLab → List ℕ
bytes_of m = m.past.bytes.items

abbrev pub told_of : MemLab → Told
told_of m = record { trace = trace_of m.past.bytes.items m.past.steps.items; marks = m.marks.items; drills = m.taken.items }

abbrev pub faults_of : MemLab → Faults
faults_of m = m.faults

abbrev pub stopped_of : MemLab → Bool
stopped_of m = m.stopped

abbrev pub seen_of : MemLab → Seen
seen_of m = record { told = Some (told_of m); faults = m.faults; stopped = m.stopped }

-- the boot state of a node
abbrev pub state_of : MemLab → List ℕ → Boot
state_of m node = state_in node m.past.nodes.nodes.items

-- a side as the plant keeps it
abbrev pub mem_side_of : MemLab → Side → MemSide
mem_side_of m side = of_side side m.past.a m.past.b
