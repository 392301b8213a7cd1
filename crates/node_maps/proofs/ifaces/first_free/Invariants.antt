use Rattle.std.proofs.Common.{◌≡◌, get_or, drop}
use Rattle.std.specs.List.{find}
use Rattle.node_maps.specs.NodeMaps.{load_of}
use Rattle.node_maps.specs.Indexed.{serves}
use Rattle.node_maps.proofs.ifaces.first_free.Given as goal

abbrev pub invariant-loop-iface : goal.invariant-loop-iface
invariant-loop-iface l =
    find (λ x. serves (get_or l.used x.id.0 0) (get_or l.last x.id.0 0) x.kbps (load_of l.fn.end)) (drop l.iface-index l.listed)
    ≡ find (λ x. serves (get_or l.used x.id.0 0) (get_or l.last x.id.0 0) x.kbps (load_of l.fn.end)) l.listed
