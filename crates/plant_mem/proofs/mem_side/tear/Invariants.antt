use Rattle.std.proofs.Common.{◌≡◌, take}
use Rattle.std.specs.Prelude.{reverse, vec_len, vec_capacity}
use Rattle.plant_mem.specs.Picks.{torn}
use Rattle.plant_mem.proofs.mem_side.tear.Given as goal

abbrev pub invariant-loop-range : goal.invariant-loop-range
invariant-loop-range l = record {
  torn : l.bytes.items ≡ torn (reverse (take l.range-index l.written)) l.initial.bytes.items;
  len : vec_len l.bytes ≡ vec_len l.initial.bytes;
  capacity : vec_capacity l.bytes ≡ vec_capacity l.initial.bytes;
}
