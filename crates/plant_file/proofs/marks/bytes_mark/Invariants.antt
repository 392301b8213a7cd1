use Rattle.std.proofs.Common.{◌≡◌, ◌<◌, take}
use Rattle.plant_file.specs.Marks.{mark_on}
use Rattle.plant_file.proofs.marks.bytes_mark.Given as goal

abbrev pub invariant-loop-byte : goal.invariant-loop-byte
invariant-loop-byte l = record {
  mark : l.mark ≡ mark_on 0 (take l.byte-index l.bytes);
  small : l.mark < 4294967296;
}
