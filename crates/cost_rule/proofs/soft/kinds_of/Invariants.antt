use Rattle.std.proofs.Common.{◌≡◌, ◌≤◌, ◌+◌}
use Rattle.lab_base.specs.Names.{same_name}
use Rattle.cost_rule.specs.Cost.{different, kinds_of}
use Rattle.cost_rule.specs.Counting.{types_from}
use Rattle.cost_rule.proofs.soft.kinds_of.Given as goal

abbrev pub invariant-loop-virt : goal.invariant-loop-virt
invariant-loop-virt l = record {
  so_far : l.kinds + different same_name (types_from l.wiring l.mapping l.class l.virt) ≡ kinds_of l.wiring l.mapping l.class;
  few : l.kinds ≤ l.virt;
}
