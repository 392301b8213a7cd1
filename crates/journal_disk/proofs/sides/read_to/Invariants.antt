use Rattle.std.proofs.Common.{◌≡◌, ◌≤◌, ◌-◌, take}
use Rattle.std.specs.Prelude.{IfSome, vec_len}
use Rattle.plant.specs.Disks.{disk}
use Rattle.journal_disk.proofs.sides.read_to.Given as goal

abbrev pub invariant-loop-side : goal.invariant-loop-side
invariant-loop-side g l = record {
  within : vec_len l.bytes ≤ l.size;
  longer : vec_len l.fn.bytes ≤ vec_len l.bytes;
  front : take (vec_len l.fn.bytes) l.bytes.items ≡ l.fn.bytes.items;
  told : (g.P.Plant.seen l.plant).told ≡ (g.P.Plant.seen l.fn.plant).told;
  read : IfSome (g.P.Plant.seen l.fn.plant).told (λ t. l.bytes.items ≡ take (vec_len l.bytes) (disk l.side t.trace).reads);
  later : (g.P.Plant.seen l.fn.plant).faults.disk ≤ (g.P.Plant.seen l.plant).faults.disk;
  devices : (g.P.Plant.seen l.plant).faults.devices ≡ (g.P.Plant.seen l.fn.plant).faults.devices;
  stopped : (g.P.Plant.seen l.plant).stopped ≡ (g.P.Plant.seen l.initial.plant).stopped;
}

abbrev pub decreases-loop-side : goal.decreases-loop-side
decreases-loop-side g l = l.size - vec_len l.bytes
