use Rattle.std.proofs.Common.{◌≡◌, take}
use Rattle.trunk_sums.specs.Totals.{used_of_all}
use Rattle.trunk_sums.specs.Remade.{remade}
use Rattle.trunk_sums.proofs.sums.Sums.total_after.Given as goal

abbrev pub invariant-loop-change : goal.invariant-loop-change
invariant-loop-change l = record {
  total : l.total ≡ used_of_all l.lab l.wiring (remade l.plugs (take l.change-index l.changes));
}
