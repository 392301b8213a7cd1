use Rattle.std.proofs.Common.{◌≡◌, length}
use Rattle.assign_core.specs.Bests.{IsPartial}
use Rattle.assign_core.proofs.begin.first_places.Given as goal

abbrev pub invariant-loop-virt : goal.invariant-loop-virt
invariant-loop-virt l = record {
  partial : IsPartial l.listed l.places;
  count : length l.places ≡ l.virt;
}
