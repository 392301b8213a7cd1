use Rattle.std.proofs.Common.{◌≡◌, ◌<◌, length, drop, All}
use Rattle.virt_topo.specs.Ends.{end_nodes}
use Rattle.virt_topo.specs.Cables.{cables}
use Rattle.lab_model.specs.Rules.{keeps_f7}
use Rattle.lab_model.specs.Feasible.{AllPass}
use Rattle.feas.proofs.segments.first_parted.Given as goal

abbrev pub invariant-loop-segment : goal.invariant-loop-segment
invariant-loop-segment l = record {
  cables : drop l.segment (cables l.wiring.segments l.mapping.plugs) ≡ cables (drop l.segment l.wiring.segments) l.rest;
  plugged : length l.rest ≡ length (end_nodes (drop l.segment l.wiring.segments));
  within : All (λ i. i.0 < length l.lab.ifaces) l.rest;
  passed : AllPass l.segment (keeps_f7 l.lab l.wiring l.mapping);
}
