use Rattle.std.proofs.Common.{arith}
use Rattle.feas.proofs.SharedNodes.{all_keep}
use Rattle.feas.proofs.nodes.are_shared.Goals as goal

pub returns : goal.returns
returns c = λ yes. all_keep c.args.lab.now c.args.wiring.now c.args.mapping.now c.loop-virt.virt _ (omega arith) c.loop-virt.invariant
