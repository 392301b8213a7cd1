-- The lengths of a side are those of what is kept of it.
use Rattle.std.proofs.Common.{◌≡◌, List, length, sym, ap, ◌∙◌, arith}
use Rattle.std.specs.Prelude.{vec_len}
use Rattle.plant.specs.Disks.{Disk, disk}
use Rattle.plant.specs.Events.{Event}
use Rattle.plant.specs.Sides.{of_side}
use Rattle.plant.specs.declared.step.Side.{Side}
use Rattle.plant.specs.declared.step.Side.TheVariants.{A, B}
use Rattle.plant_mem.specs.MemSides.{HasMore}
use Rattle.plant_mem.specs.MemLab.{told_of, mem_side_of}
use Rattle.plant_mem.specs.Rooms.{HasSide, side_rooms}
use Rattle.plant_mem.specs.Steps.{trace_of}
use Rattle.plant_mem.specs.declared.mem.MemLab.{MemLab}
use Rattle.plant_mem.specs.declared.past.Past.{Past}

module _ (past : Past) where
  abbrev trace : List Event
  trace = trace_of past.bytes.items past.steps.items

  reads_of : (side : Side) → length (disk side trace).reads ≡ vec_len (of_side side past.a past.b).reads
  reads_of A = ap (λ (d : Disk). length d.reads) (sym past.a_is) ∙ sym past.a.reads.ok.0
  reads_of B = ap (λ (d : Disk). length d.reads) (sym past.b_is) ∙ sym past.b.reads.ok.0

  durable_of : (side : Side) → length (disk side trace).durable ≡ vec_len (of_side side past.a past.b).durable
  durable_of A = ap (λ (d : Disk). length d.durable) (sym past.a_is) ∙ sym past.a.durable.ok.0
  durable_of B = ap (λ (d : Disk). length d.durable) (sym past.b_is) ∙ sym past.b.durable.ok.0

  -- the rooms of a side, by what the plant tells
  pub has_side : (side : Side) → HasMore 262144 16777216 (of_side side past.a past.b) → HasSide (disk side trace) (side_rooms (of_side side past.a past.b))
  has_side side h = record {
    reads = omega (arith, reads_of side, h.reads);
    durable = omega (arith, durable_of side, h.durable);
    writes = omega (arith, h.table);
  }

pub reads_len : (m : MemLab) (side : Side) → length (disk side (told_of m).trace).reads ≡ vec_len (mem_side_of m side).reads
reads_len m side = reads_of m.past side
