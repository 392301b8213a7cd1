use Rattle.std.proofs.Common.{◌≡◌, ◌≤◌, ◌*◌}
use Rattle.phys_lab.specs.Forests.{first_side_of}
use Rattle.virt_topo.specs.Cables.{cable_use}
use Rattle.cost_rule.specs.Cost.{sum_below}
use Rattle.rule_costs.proofs.uses.segment_uses.Given as goal

abbrev pub invariant-loop-trunk : goal.invariant-loop-trunk
invariant-loop-trunk l = record {
  so_far : l.total ≡ sum_below l.trunk (λ t. cable_use (first_side_of l.lab.ifaces l.lab.trunks t) (record { segment = l.segment; plugs = l.plugs }));
  small : l.total ≤ l.trunk * (256 * 1000000000);
}
