use Rattle.std.proofs.Common.{length, ap, arith}
use Rattle.virt_topo.proofs.CableLaws.{sound_limits}
use Rattle.node_maps.proofs.EndLists.{same_length}
use Rattle.map_state.proofs.table.own_of.Goals as goal

pub own_ends-requires : goal.own_ends-requires
own_ends-requires c =
    let limits = sound_limits c.args.wiring.now c.requires.sound in
    let few = limits.ends in
    let same = same_length c.args.wiring.now.segments in
    let ends = ap length c.requires.ends in
    omega (arith, few, same, ends)
