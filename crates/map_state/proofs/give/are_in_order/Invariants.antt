use Rattle.std.proofs.Common.{◌≡◌, map, drop, get_or}
use Rattle.node_maps.specs.Indexed.{are_in_order}
use Rattle.map_state.specs.Nodes.{no_end}
use Rattle.map_state.proofs.give.are_in_order.Given as goal

abbrev pub invariant-loop-number : goal.invariant-loop-number
invariant-loop-number l =
    are_in_order (map (λ k. get_or l.ends k no_end) (drop l.number l.listed)) (drop l.number l.ifaces) ≡ are_in_order (map (λ k. get_or l.ends k no_end) l.listed) l.ifaces
