-- A plant in a folder as contracts see it.
use Rattle.std.specs.Prelude.{Bool, Option, Some, None, IfSome}
use Rattle.plant.specs.Disks.{disk, ArePossible}
use Rattle.plant.specs.Seen.{Seen}
use Rattle.plant.specs.declared.moment.Faults.{Faults}
use Rattle.plant.specs.declared.step.Side.TheVariants.{A, B}
use Rattle.folder.specs.Folders.{Held, past_of}

abbrev pub seen_by : Option Held → Bool → Faults → Seen
seen_by held stopped faults = record { told = past_of held; faults = faults; stopped = stopped }

-- what the sides read as is possible
pub reads_possible_by : (held : Option Held) → IfSome held (λ h. ArePossible h.past.trace (disk A h.past.trace).reads (disk B h.past.trace).reads)
    → IfSome (past_of held) (λ t. ArePossible t.trace (disk A t.trace).reads (disk B t.trace).reads)
reads_possible_by None h = h
reads_possible_by (Some held) h = h
