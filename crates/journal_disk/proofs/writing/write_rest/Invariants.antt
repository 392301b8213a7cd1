use Rattle.std.proofs.Common.{◌≡◌, ◌+◌, ◌-◌, ◌≤◌, ℕ, List, take, length}
use Rattle.std.specs.Prelude.{IfSome, IsTrue}
use Rattle.plant.specs.Disks.{disk}
use Rattle.plant.specs.Told.{with_steps}
use Rattle.journal_disk.specs.Compacting.{ArePieces, text_writes}
use Rattle.journal_disk.proofs.WriteTextLaws.{IsFilled}
use Rattle.journal_disk.proofs.writing.write_rest.Given as goal

abbrev pub invariant-loop-done : goal.invariant-loop-done
invariant-loop-done g l = record {
  within : l.done ≤ length l.bytes;
  so_far : (pieces : List (List ℕ)) × ArePieces (take l.done l.bytes) pieces × ((g.P.Plant.seen l.plant).told ≡ with_steps (g.P.Plant.seen l.fn.plant).told (text_writes l.side l.at pieces)) × IsFilled l.bytes l.done pieces;
  room : IfSome (g.P.Plant.seen l.plant).told (λ t. l.at + l.done ≤ length (disk l.side t.trace).reads);
  later : (g.P.Plant.seen l.fn.plant).faults.disk ≤ (g.P.Plant.seen l.plant).faults.disk;
  devices : (g.P.Plant.seen l.plant).faults.devices ≡ (g.P.Plant.seen l.fn.plant).faults.devices;
  going : IsTrue (g.P.Plant.seen l.plant).stopped → ⊥;
}

abbrev pub decreases-loop-done : goal.decreases-loop-done
decreases-loop-done g l = length l.bytes - l.done
