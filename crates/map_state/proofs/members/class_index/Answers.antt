use Rattle.std.proofs.Common.{arith}
use Rattle.virt_topo.proofs.CableLaws.{sound_limits}
use Rattle.map_state.proofs.MemberLaws.{few_types}
use Rattle.map_state.proofs.members.class_index.Goals as goal

pub overflow_mul-result : goal.overflow_mul-result
overflow_mul-result c =
    let few = (sound_limits c.args.wiring.now c.requires.sound).classes in
    let class = c.requires.class in
    omega (arith, few, class)

pub overflow_add-result : goal.overflow_add-result
overflow_add-result c =
    let few = (sound_limits c.args.wiring.now c.requires.sound).classes in
    let types = few_types c.args.wiring.now c.args.class c.requires.sound c.requires.class in
    let class = c.requires.class in
    let within = c.in_ok-number.ensures.within in
    omega (arith, few, types, class, within)
