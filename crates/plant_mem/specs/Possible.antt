-- The bytes that the sides of a plant in memory read as are possible.
use Rattle.std.proofs.Common.{subst}
use Rattle.plant.specs.Disks.{Disk, disk, IsImage, ArePossible}
use Rattle.plant_mem.specs.MemLab.{told_of}
use Rattle.plant_mem.specs.declared.mem.MemLab.{MemLab}
use Rattle.plant.specs.declared.step.Side.TheVariants.{A, B}

pub reads_possible_of : (m : MemLab) → ArePossible (told_of m).trace (disk A (told_of m).trace).reads (disk B (told_of m).trace).reads
reads_possible_of m = (
  subst (λ (d : Disk). IsImage d d.reads) m.past.a_is m.past.a.readable,
  subst (λ (d : Disk). IsImage d d.reads) m.past.b_is m.past.b.readable,
)
