use Rattle.std.proofs.Common.{◌-◌, ◌<◌, List, length}
use Rattle.journal_rec.specs.declared.record.Record.{Record}
use Rattle.journal_disk.proofs.Walking.{SoFar}
use Rattle.lab_sides.proofs.walking.walk.Given as goal

abbrev pub invariant-gates : goal.invariant-gates
invariant-gates l = record {
  inside : l.gate < length l.bytes;
  so_far : (rs : List Record) × SoFar l.bytes l.gate rs l.found;
}

abbrev pub decreases-gates : goal.decreases-gates
decreases-gates l = length l.bytes - l.gate
