use Rattle.std.proofs.Common.{◌-◌, ◌<◌, length}
use Rattle.lab_sides.proofs.Stepping.{SoFarThere}
use Rattle.lab_sides.proofs.closed.behind.Given as goal

abbrev pub invariant-gates : goal.invariant-gates
invariant-gates l = record {
  inside : l.gate < length l.bytes;
  so_far : SoFarThere l.bytes l.from l.gate l.found;
}

abbrev pub decreases-gates : goal.decreases-gates
decreases-gates l = length l.bytes - l.gate
