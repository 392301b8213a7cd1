use Rattle.std.proofs.Common.{arith}
use Rattle.virt_topo.proofs.CableLaws.{sound_limits}
use Rattle.map_state.proofs.members.Members.none.Goals as goal

pub overflow_mul-len : goal.overflow_mul-len
overflow_mul-len c =
    let few = (sound_limits c.args.wiring.now c.requires).classes in
    let len = c.len.ensures in
    omega (arith, few, len)
