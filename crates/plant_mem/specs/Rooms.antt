-- The rooms of a plant in memory.
use Rattle.std.specs.Prelude.{◌≡◌, ℕ, ◌+◌, ◌-◌, ◌≤◌, ◌&&◌, min, nat_le, nat_lt, Bool, List, length, vec_len, vec_capacity}
use Rattle.plant.specs.Disks.{Disk, disk}
use Rattle.plant.specs.Events.{Event}
use Rattle.plant.specs.declared.step.Side.{Side}
use Rattle.plant.specs.declared.step.Side.TheVariants.{A, B}
use Rattle.plant.specs.Sides.{of_side}
use Rattle.plant_mem.specs.MemLab.{told_of}
use Rattle.plant_mem.specs.NodeRooms.{node_room}
use Rattle.plant_mem.specs.declared.mem_side.MemSide.{MemSide}
use Rattle.plant_mem.specs.declared.mem.MemLab.{MemLab}

-- of a side: the most bytes that it may have as it reads and as it is durable, and for how many writes more there is room
pub record SideRooms : Type 0 where
  pub reads : ℕ
  pub durable : ℕ
  pub writes : ℕ

-- how many steps and written bytes are left before it stops; for how many entries of the tables of nodes, of pipes and of rows there is room; and the
-- rooms of both sides
pub record Rooms : Type 0 where
  pub steps : ℕ
  pub entries : ℕ
  pub bytes : ℕ
  pub a : SideRooms
  pub b : SideRooms

abbrev pub side_rooms : MemSide → SideRooms
side_rooms mem_side = record {
  reads = vec_capacity mem_side.reads;
  durable = vec_capacity mem_side.durable;
  writes = vec_capacity mem_side.written - vec_len mem_side.written;
}

abbrev pub rooms_of : MemLab → Rooms
rooms_of m = record {
  steps = m.last_step - vec_len m.past.steps;
  entries = min (node_room m.past.nodes) (vec_capacity m.past.rows - vec_len m.past.rows);
  bytes = m.last_byte - vec_len m.past.bytes;
  a = side_rooms m.past.a;
  b = side_rooms m.past.b;
}

abbrev pub rooms_on : Side → Rooms → SideRooms
rooms_on side r = of_side side r.a r.b

-- there is room for a step, for a write of so many bytes at that place, for a sync, for a cut, for a command
abbrev pub fits_step : Rooms → Bool
fits_step r = nat_lt 0 r.steps

abbrev pub fits_write : Rooms → Side → Disk → ℕ → ℕ → Bool
fits_write r side d at size = fits_step r && (nat_le size r.bytes && (nat_le at (length d.reads) && (nat_le size ((rooms_on side r).reads - at) && nat_lt 0 (rooms_on side r).writes)))

abbrev pub fits_sync : Rooms → Side → Disk → Bool
fits_sync r side d = fits_step r && nat_le (length d.reads) (rooms_on side r).durable

abbrev pub fits_cut : Rooms → Disk → ℕ → Bool
fits_cut r d size = fits_step r && nat_le size (length d.reads)

abbrev pub fits_command : Rooms → Bool
fits_command r = fits_step r && nat_lt 0 r.entries

-- the same of a plant
abbrev pub can_step : MemLab → Bool
can_step m = fits_step (rooms_of m)

abbrev pub can_write : MemLab → Side → ℕ → ℕ → Bool
can_write m side at size = fits_write (rooms_of m) side (disk side (told_of m).trace) at size

abbrev pub can_sync : MemLab → Side → Bool
can_sync m side = fits_sync (rooms_of m) side (disk side (told_of m).trace)

abbrev pub can_cut : MemLab → Side → ℕ → Bool
can_cut m side size = fits_cut (rooms_of m) (disk side (told_of m).trace) size

abbrev pub can_command : MemLab → Bool
can_command m = fits_command (rooms_of m)

-- no room is less than before, but for so many steps, each with an entry and a write, and so many bytes; steps and bytes that are left don't
-- grow
pub record KeepsSide (steps : ℕ) (old new : SideRooms) : Type 0 where
  pub reads : old.reads ≤ new.reads
  pub durable : old.durable ≤ new.durable
  pub writes : old.writes ≤ new.writes + steps

pub record KeepsRooms (steps bytes : ℕ) (old new : Rooms) : Type 0 where
  pub steps_left : old.steps ≤ new.steps + steps
  pub entries : old.entries ≤ new.entries + steps
  pub bytes_left : old.bytes ≤ new.bytes + bytes
  pub no_more_steps : new.steps ≤ old.steps
  pub no_more_bytes : new.bytes ≤ old.bytes
  pub a : KeepsSide steps old.a new.a
  pub b : KeepsSide steps old.b new.b

-- THE ROOMS AT FIRST AND AFTER A START: 262,144 steps and 16 MiB of written bytes are left, no more and no less. There is room for an entry and
-- a write of each of these steps, and on each side for 16 MiB more than it has, as it reads and as it is durable
pub record HasSide (d : Disk) (r : SideRooms) : Type 0 where
  pub reads : length d.reads + 16777216 ≤ r.reads
  pub durable : length d.durable + 16777216 ≤ r.durable
  pub writes : 262144 ≤ r.writes

pub record HasRooms (trace : List Event) (r : Rooms) : Type 0 where
  pub steps : r.steps ≡ 262144
  pub entries : 262144 ≤ r.entries
  pub bytes : r.bytes ≡ 16777216
  pub a : HasSide (disk A trace) r.a
  pub b : HasSide (disk B trace) r.b
