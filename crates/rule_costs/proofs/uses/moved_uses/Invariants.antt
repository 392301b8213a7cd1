use Rattle.std.proofs.Common.{◌≡◌, ◌≤◌, ◌<◌, ◌+◌, length, drop, All}
use Rattle.virt_topo.specs.Ends.{end_nodes}
use Rattle.virt_topo.specs.Cables.{cables}
use Rattle.cost_rule.specs.Cost.{trunk_uses}
use Rattle.rule_costs.specs.Uses.{uses_of_all}
use Rattle.rule_costs.proofs.uses.moved_uses.Given as goal

abbrev pub invariant-loop-segment : goal.invariant-loop-segment
invariant-loop-segment l = record {
  difference : trunk_uses l.lab l.wiring l.to + uses_of_all l.lab (cables (drop l.segment-index l.segment-items) l.old) + l.before
      ≡ trunk_uses l.lab l.wiring l.from + uses_of_all l.lab (cables (drop l.segment-index l.segment-items) l.new) + l.after;
  before : l.before + uses_of_all l.lab (cables (drop l.segment-index l.segment-items) l.old) ≤ trunk_uses l.lab l.wiring l.from;
  after : l.after + uses_of_all l.lab (cables (drop l.segment-index l.segment-items) l.new) ≤ trunk_uses l.lab l.wiring l.to;
  old_plugged : length l.old ≡ length (end_nodes (drop l.segment-index l.segment-items));
  new_plugged : length l.new ≡ length (end_nodes (drop l.segment-index l.segment-items));
  old_within : All (λ i. i.0 < length l.lab.ifaces) l.old;
  new_within : All (λ i. i.0 < length l.lab.ifaces) l.new;
}
