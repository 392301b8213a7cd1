-- The sides of a folder in memory read as is possible.
use Rattle.std.proofs.Common.{subst}
use Rattle.plant.specs.Disks.{Disk, disk, IsImage, ArePossible}
use Rattle.plant.specs.declared.step.Side.TheVariants.{A, B}
use Rattle.mem_folder.specs.MemFolders.{trace_of}
use Rattle.mem_folder.specs.declared.mem_folder.MemFolder.{MemFolder}

pub reads_possible_of : (m : MemFolder) → ArePossible (trace_of m.steps.items) (disk A (trace_of m.steps.items)).reads (disk B (trace_of m.steps.items)).reads
reads_possible_of m = (
  subst (λ (d : Disk). IsImage d d.reads) m.a_is m.sides.a.readable,
  subst (λ (d : Disk). IsImage d d.reads) m.b_is m.sides.b.readable,
)
