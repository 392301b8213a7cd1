-- A side that a plant in memory keeps.
use Rattle.std.specs.Prelude.{◌≤◌, ℕ, ◌+◌, max, reverse, vec_len, vec_capacity}
use Rattle.plant.specs.Disks.{Disk}
use Rattle.plant_mem.specs.declared.mem_side.MemSide.{MemSide}

abbrev pub disk_of : MemSide → Disk
disk_of mem_side = record { durable = mem_side.durable.items; reads = mem_side.reads.items; written = reverse mem_side.written.items }

-- its room is as it was, but for one entry of the table of writes
pub record KeepsRoom (old new : MemSide) : Type 0 where
  pub durable : vec_capacity old.durable ≤ vec_capacity new.durable
  pub reads : vec_capacity old.reads ≤ vec_capacity new.reads
  pub table : vec_len new.written + vec_capacity old.written ≤ vec_len old.written + 1 + vec_capacity new.written

-- there is room for so many writes more, and for so many bytes more than it has, as it is durable and as it reads
pub record HasMore (writes bytes : ℕ) (mem_side : MemSide) : Type 0 where
  pub reads : max (vec_len mem_side.durable) (vec_len mem_side.reads) + bytes ≤ vec_capacity mem_side.reads
  pub durable : max (vec_len mem_side.durable) (vec_len mem_side.reads) + bytes ≤ vec_capacity mem_side.durable
  pub table : vec_len mem_side.written + writes ≤ vec_capacity mem_side.written
