use Rattle.std.proofs.Common.{◌≡◌, ◌++◌, take}
use Rattle.std.specs.List.{flat_map}
use Rattle.net_plan.specs.Parts.{delay_nodes}
use Rattle.net_plan.proofs.nodes.push_all_delay_nodes.Given as goal

abbrev pub invariant-loop-link : goal.invariant-loop-link
invariant-loop-link l = l.nodes ≡ l.initial.nodes ++ flat_map delay_nodes (take l.link-index l.links)
